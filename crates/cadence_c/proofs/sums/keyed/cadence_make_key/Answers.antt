use Rattle.std.proofs.Common.{◌≡◌, ◌∙◌, Some, ap, rules, sym}
use Rattle.cadence_c.proofs.GivenLines.{has_key}
use Rattle.cadence_c.proofs.sums.keyed.cadence_make_key.Goals as goal

pub returns-in-Ok-clause-made : goal.returns-in-Ok-clause-made
returns-in-Ok-clause-made c ok =
    let held : c.in-Some.held.value ≡ c.deref_mut.result.now = search rules in
    has_key c.args.sums.now c.put.new.self c.deref_mut.result.now _ c.args.line.now c.in-Ok.place
    (sym c.in-Some.ensures.taken ∙ ap (λ a. Some a) held) c.put.ensures c.in-Ok.ensures.made
