use Rattle.std.proofs.Common.{◌+◌, ◌∙◌, ◌∷◌, ◌++◌, [], List, ap, map, subst, sym, take}
use Rattle.std.specs.List.{fold}
use Rattle.std.proofs.lemmas.List.{take_all, take_more}
use Rattle.cadence_text.specs.Metric.{Metric}
use Rattle.cadence_settings.specs.declared.call.CallOption.{CallOption}
use Rattle.cadence_settings.specs.Call.{IsDraftOf, chosen}
use Rattle.cadence_settings.specs.CallData.{sent_choice}
use Rattle.cadence_settings.proofs.calls.CallOptions.{chosen_more}
use Rattle.cadence_settings.proofs.call.choose_all.Goals as goal

pub loop-option-preserved : goal.loop-option-preserved
loop-option-preserved g c = λ m is.
    let i = c.loop-option.option-index in
    let one = c.option-item.result in
    let options = c.args.options.now in
    let next = chosen_more (sent_choice c.args.is_cleaned) m (take i options) (take (i + 1) options) one
    (take_more options i one c.loop-option-test.true ∙ ap (λ o. take i options ++ o ∷ []) (sym c.option-item.is)) in
    subst (λ (n : Metric). IsDraftOf n c.choose.new.draft) next (c.in_ok-choose.ensures (fold chosen m (map (sent_choice c.args.is_cleaned) (take i options)))
    (c.loop-option.invariant m is))

pub returns : goal.returns
returns g c = λ m is.
    let all = take_all c.loop-option.option-index c.args.options.now c.loop-option-test.false in
    subst (λ (os : List (CallOption _)). IsDraftOf (fold chosen m (map (sent_choice c.args.is_cleaned) os)) c.loop-option.draft) all (c.loop-option.invariant m is)
