use Rattle.std.proofs.Common.{List, subst, sym}
use Rattle.cadence_settings.specs.declared.call.CallOption.{CallOption}
use Rattle.cadence_text.specs.Cleaned.{text_as}
use Rattle.cadence_settings.specs.Call.{IsDraftOf, chosen, contained}
use Rattle.cadence_settings.specs.CallData.{sent_choice}
use Rattle.cadence_settings.proofs.calls.CallOptions.{contained_draft, rated_draft, timed_draft}
use Rattle.cadence_settings.proofs.call.choose.Goals as goal

pub returns-in-Container : goal.returns-in-Container
returns-in-Container g c = λ m is.
    let cleaned = c.args.is_cleaned in
    let text = c.as_str-in-Container.result.now in
    let new = c.set_container_as.new.self in
    let here : IsDraftOf (chosen m (contained (text_as cleaned text))) new =
    contained_draft m c.args.draft.now new (text_as cleaned text) c.set_container_as.ensures.container c.set_container_as.ensures.representable is in
    subst (λ (o : CallOption _). IsDraftOf (chosen m (sent_choice cleaned o)) new) (sym c.in-Container.is)
    (subst (λ (t : List _). IsDraftOf (chosen m (contained (text_as cleaned t))) new) c.as_str-in-Container.ensures.value here)

pub returns-in-Time : goal.returns-in-Time
returns-in-Time g c = λ m is.
    let new = c.set_time.new.self in
    subst (λ (o : CallOption _). IsDraftOf (chosen m (sent_choice c.args.is_cleaned o)) new) (sym c.in-Time.is)
    (timed_draft m c.args.draft.now new c.in-Time.time c.set_time.ensures.time c.set_time.ensures.representable is)

pub returns-in-Rate : goal.returns-in-Rate
returns-in-Rate g c = λ m is.
    let new = c.set_rate.new.self in
    subst (λ (o : CallOption _). IsDraftOf (chosen m (sent_choice c.args.is_cleaned o)) new) (sym c.in-Rate.is)
    (rated_draft m c.args.draft.now new c.in-Rate.rate c.set_rate.ensures.rate c.set_rate.ensures.representable is)
