use Rattle.std.proofs.Common.{◌≡◌, ◌∙◌, None, ap₂, rules, subst, sym, true, false}
use Rattle.cadence_events.specs.Cleaned.{common_as, check_as}
use Rattle.cadence_events.specs.ServiceCheck.{check_of, check_sharing}
use Rattle.cadence_events.specs.Lined.{common_of}
use Rattle.cadence_events.specs.Refusals.{check_refusal}
use Rattle.cadence_events.proofs.CleanedTexts.{check_fits, same_common, same_check}
use Rattle.cadence_events.proofs.service_check.ServiceCheckLined.refusal_with.Goals as goal

pub returns-then-is_cleaned-clause-first : goal.returns-then-is_cleaned-clause-first
returns-then-is_cleaned-clause-first c =
    let common = common_of c.args.common.now in
    let own = check_of c.args.self.now in
    let is : c.args.is_cleaned ≡ true = search rules in
    subst (λ k. None ≡ check_refusal (check_sharing (common_as k common) (check_as k own))) (sym is) (sym (check_fits common own))

pub returns-clause-first : goal.returns-clause-first
returns-clause-first c =
    let common = common_of c.args.common.now in
    let own = check_of c.args.self.now in
    let is : c.args.is_cleaned ≡ false = search rules in
    subst (λ k. c.first_unfit.result ≡ check_refusal (check_sharing (common_as k common) (check_as k own))) (sym is)
    (c.first_unfit.ensures ∙ sym (ap₂ (λ x y. check_refusal (check_sharing x y)) (same_common common) (same_check own)))
