-- What `check_plan` tests at each group of a plan, and what it says of the rest of the plan.
use Rattle.std.proofs.Common.{◌≡◌, ℕ, ◌+◌, ◌↔◌, List, [], ◌∷◌, length, drop, sym, subst}
use Rattle.cadence_schedule.specs.Plan.{IsGroup, EndsLate}
use Rattle.cadence_schedule.proofs.plans.PlanGroups.{TightGroups}

module _ (capacity : ℕ) (marks : List ℕ) (start count : ℕ) (left : List ℕ) where
  -- If the first group of a plan is tight, the plan is tight exactly if the rest of it is, for the sizes that are left.
  pub tight_step : (plan rest rest_left : List ℕ) → plan ≡ count ∷ rest → rest_left ≡ drop count left
      → IsGroup capacity marks start count left × EndsLate capacity marks start count left
      → (TightGroups capacity marks start plan left ↔ TightGroups capacity marks (start + count) rest rest_left)
  tight_step plan rest rest_left e f (group, late) = (
    λ t. let ((g, gs), (l, ls)) =
        subst (λ p. TightGroups capacity marks start p left) e t in subst (λ s. TightGroups capacity marks (start + count) rest s) (sym f) (gs, ls),
    λ t. let (gs, ls) =
        subst (λ s. TightGroups capacity marks (start + count) rest s) f t in subst (λ p. TightGroups capacity marks start p left) (sym e)
        ((group, gs), (late, ls)),
  )

  pub tight_refused : (plan rest : List ℕ) → plan ≡ count ∷ rest
      → (IsGroup capacity marks start count left × EndsLate capacity marks start count left → ⊥)
      → TightGroups capacity marks start plan left → ⊥
  tight_refused plan rest e refused t =
      let ((g, gs), (l, ls)) = subst (λ p. TightGroups capacity marks start p left) e t in refused (g, l)

pub tight_end : (capacity : ℕ) (marks : List ℕ) (start : ℕ) (plan left : List ℕ) → plan ≡ []
    → (TightGroups capacity marks start plan left ↔ (length left ≡ 0))
tight_end capacity marks start plan left e = (
  λ t. (subst (λ p. TightGroups capacity marks start p left) e t).0,
  λ z. subst (λ p. TightGroups capacity marks start p left) (sym e) (z, tt),
)
