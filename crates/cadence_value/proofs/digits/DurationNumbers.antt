-- Lists of durations: whether the number of each fits 64 bits, and which results their conversion may have.
use Rattle.std.proofs.Common.{◌≡◌, ℕ, ◌^◌, ◌<◌, Bool, true, false, refl, List, map, Some, None, Result, Ok, Err, nat_lt, All}
use Rattle.std.proofs.lemmas.Bool.{lt-ltb, ltb-true}
use Rattle.std.proofs.lemmas.List.Folds.{list_all-map}
use Rattle.std.proofs.lemmas.List.Sums.{AllPass-from_list_all, list_all-from_AllPass}
use Rattle.std.specs.List.{list_all}
use Rattle.std.specs.Result.{IsErrAnd}
use Rattle.cadence_errors.specs.declared.MetricError.{MetricError}
use Rattle.cadence_value.specs.declared.value.MetricValue.{MetricValue}
use Rattle.cadence_errors.specs.Errors.{out_of_memory}
use Rattle.cadence_value.specs.Number.{Number, natural}
use Rattle.cadence_value.specs.Values.{Converts, numbers_in_u64}

fits : ℕ → Bool
fits n = nat_lt n (2 ^ 64)

pub numbers_that_fit : {X : Type 0} (f : X → ℕ) (xs : List X) → All (λ x. f x < 2 ^ 64) xs → numbers_in_u64 (map f xs) ≡ Some (map natural (map f xs))
numbers_that_fit f xs all =
    let pass : list_all (λ x. nat_lt (f x) (2 ^ 64)) xs ≡ true =
    list_all-from_AllPass (λ x. nat_lt (f x) (2 ^ 64)) xs (λ k d h. lt-ltb _ _ (all k d h)) in
    rw (list_all-map (λ n. nat_lt n (2 ^ 64)) f xs, pass)

refuted : {X : Type 0} (f : X → ℕ) (xs : List X) (b : Bool) → list_all (λ x. nat_lt (f x) (2 ^ 64)) xs ≡ b
    → (All (λ x. f x < 2 ^ 64) xs → ⊥) → b ≡ false
refuted f xs true is none = elim (none (λ k d h. ltb-true _ _ (AllPass-from_list_all (λ x. nat_lt (f x) (2 ^ 64)) xs is k d h))) [ ]
refuted f xs false is none = refl

pub none_where_one_passes : {X : Type 0} (f : X → ℕ) (xs : List X) → (All (λ x. f x < 2 ^ 64) xs → ⊥) → numbers_in_u64 (map f xs) ≡ None
none_where_one_passes f xs none = rw (list_all-map (λ n. nat_lt n (2 ^ 64)) f xs, refuted f xs (list_all (λ x. nat_lt (f x) (2 ^ 64)) xs) refl none)

-- A conversion may fail because memory ran out.
pub Converts-refused : {Z : Type 0} (numbers : List Number) (r : Result (MetricValue Z) MetricError) → IsErrAnd r (λ e. e ≡ out_of_memory)
    → Converts (Some numbers) r
Converts-refused numbers (Ok v) refused = elim refused [ ]
Converts-refused numbers (Err e) refused = refused
