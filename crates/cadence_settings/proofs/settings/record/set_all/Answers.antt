use Rattle.std.proofs.Common.{◌+◌, ◌∙◌, ◌∷◌, ◌++◌, [], ap, sym, take}
use Rattle.std.proofs.lemmas.List.{take_all, take_more}
use Rattle.cadence_settings.specs.Call.{chosen}
use Rattle.cadence_settings.specs.CallData.{choice_of}
use Rattle.cadence_settings.proofs.calls.CallOptions.{chosen_more}
use Rattle.cadence_settings.proofs.settings.record.set_all.Goals as goal

pub loop-option-preserved : goal.loop-option-preserved
loop-option-preserved g c =
    let i = c.loop-option.option-index in
    let one = c.option-item.result in
    let options = c.args.options.now in
    c.in_ok-set.ensures ∙ ap (λ m. chosen m (choice_of one)) c.loop-option.invariant
    ∙ chosen_more choice_of c.args.metric.now (take i options) (take (i + 1) options) one
    (take_more options i one c.loop-option-test.true ∙ ap (λ o. take i options ++ o ∷ []) (sym c.option-item.is))

pub returns : goal.returns
returns g c =
    let all = take_all c.loop-option.option-index c.args.options.now c.loop-option-test.false in
    cc (all, c.loop-option.invariant)
