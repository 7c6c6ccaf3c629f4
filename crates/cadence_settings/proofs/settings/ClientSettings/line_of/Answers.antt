use Rattle.std.proofs.Common.{◌≡◌, ◌∙◌, Some, ap, rules, string_bytes, subst, sym}
use Rattle.std.specs.Option.{option_map}
use Rattle.std.specs.Prelude.{IfSome, map}
use Rattle.std.specs.List.{fold}
use Rattle.cadence_text.specs.Metric.{Metric}
use Rattle.cadence_text.specs.Cleaned.{text_as}
use Rattle.cadence_text.specs.Line.{line_of}
use Rattle.cadence_text.specs.Representable.{IsRepresentable}
use Rattle.cadence_value.specs.Values.{Converts}
use Rattle.cadence_settings.specs.Call.{IsDraftOf, chosen, metric_for}
use Rattle.cadence_settings.specs.CallData.{call_of, numbers_of_data, sent_choice}
use Rattle.cadence_settings.specs.Settings.{Settings}
use Rattle.cadence_settings.proofs.calls.CallOptions.{drafted_call, line_fails}
use Rattle.cadence_settings.proofs.settings.ClientSettings.line_of.Goals as goal

pub returns-in-Err-clause-refused : goal.returns-in-Err-clause-refused
returns-in-Err-clause-refused g c =
    let settings = c.args.self.now in
    let call = c.args.call.now in
    line_fails (λ ns. metric_for settings (call_of call ns)) (numbers_of_data settings call) c.value_of.result c.in-Err.error c.in-Err.is
    c.value_of.ensures

pub returns-clause-line : goal.returns-clause-line
returns-clause-line g c =
    let key : c.as_str.result.now ≡ text_as (c.args.self.now).cleaned (string_bytes c.args.call.now.key) = search rules in
    let draft = c.in_ok-draft.draft in
    let grows =
    subst (λ (s : Settings). (m : Metric) → IsDraftOf m draft
    → IsDraftOf (fold chosen m (map (sent_choice s.cleaned) c.deref-2.result.now)) c.choose_all.new.draft) c.self.view_is
    c.in_ok-choose_all.ensures in
    let (m, is, drafted) =
    drafted_call c.args.self.now c.args.call.now c.in-Ok.value c.kind.result c.as_str.result.now c.deref-2.result.now
    c.in_ok-draft.draft c.choose_all.new.draft
    (subst (λ r. Converts (numbers_of_data c.args.self.now c.args.call.now) r) c.in-Ok.is c.value_of.ensures)
    c.kind.ensures key c.deref-2.ensures.value
    (c.in_ok-draft.ensures.draft, c.in_ok-draft.ensures.representable) grows in
    ap (option_map line_of) is ∙ ap Some (sym (c.in_ok-line.ensures.metric m drafted.0))

pub returns-clause-representable : goal.returns-clause-representable
returns-clause-representable g c =
    let key : c.as_str.result.now ≡ text_as (c.args.self.now).cleaned (string_bytes c.args.call.now.key) = search rules in
    let draft = c.in_ok-draft.draft in
    let grows =
    subst (λ (s : Settings). (m : Metric) → IsDraftOf m draft
    → IsDraftOf (fold chosen m (map (sent_choice s.cleaned) c.deref-2.result.now)) c.choose_all.new.draft) c.self.view_is
    c.in_ok-choose_all.ensures in
    let (m, is, drafted) =
    drafted_call c.args.self.now c.args.call.now c.in-Ok.value c.kind.result c.as_str.result.now c.deref-2.result.now
    c.in_ok-draft.draft c.choose_all.new.draft
    (subst (λ r. Converts (numbers_of_data c.args.self.now c.args.call.now) r) c.in-Ok.is c.value_of.ensures)
    c.kind.ensures key c.deref-2.ensures.value
    (c.in_ok-draft.ensures.draft, c.in_ok-draft.ensures.representable) grows in
    subst (λ o. IfSome o IsRepresentable) (sym is) drafted.1
