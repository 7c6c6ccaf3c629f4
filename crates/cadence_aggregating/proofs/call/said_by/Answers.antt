use Rattle.std.proofs.Common.{◌≡◌, ◌<◌, ◌^◌, ◌∙◌, rules, sym, subst, to_z, of_z}
use Rattle.std.proofs.lemmas.Int.{to_z-of_z}
use Rattle.std.specs.Int.RustNames.{FitsSigned}
use mir.Syntax.{w64}
use mir.Val.{SFits}
use Rattle.cadence_aggregate.specs.Server.{amount, level}
use Rattle.cadence_aggregating.specs.Calls.{line_of_keyed}
use Rattle.cadence_aggregating.specs.Says.{LineSays}
use Rattle.cadence_aggregating.proofs.Called.{raise_says, set_says}
use Rattle.cadence_aggregating.proofs.call.said_by.Goals as goal

pub returns-in-Raise-clause-says : goal.returns-in-Raise-clause-says
returns-in-Raise-clause-says c =
    let by = c.in-Raise.by in
    let context = c.deref.result.now in
    let fits : FitsSigned w64 by = search rules in
    let small : SFits w64 by = search rules in
    let same : to_z w64 (of_z w64 by) ≡ by = to_z-of_z w64 by small in
    subst (λ call. ∥ LineSays (line_of_keyed call) (amount context (to_z w64 (of_z w64 by))) ∥₁) (sym c.in-Raise.is)
    (raise_says c.in-Raise.key.now by (to_z w64 (of_z w64 by)) context fits same c.deref.ensures)

pub returns-in_ok-rewrite-in-Set-clause-says : goal.returns-in_ok-rewrite-in-Set-clause-says
returns-in_ok-rewrite-in-Set-clause-says c =
    let value = c.in-Set.value in
    let context = c.deref-in-Set.result.now in
    let text = c.deref-in-Set-2.result.now in
    let small : value < 2 ^ 64 = search rules in
    subst (λ call. ∥ LineSays (line_of_keyed call) (level context text) ∥₁) (sym c.in-Set.is)
    (set_says c.in-Set.key.now value context text small c.deref-in-Set.ensures (c.deref-in-Set-2.ensures ∙ c.in_ok-rewrite-in-Set.ensures))
