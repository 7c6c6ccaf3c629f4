-- A tight plan has the fewest groups: after as many groups it has taken at least as many sizes as any other admissible
-- plan.
use Rattle.std.proofs.Common.{◌≡◌, ℕ, ◌+◌, ◌-◌, ◌<◌, ◌≤◌, List, [], ◌∷◌, ◌++◌, length, take, drop, get_or, refl, sym, ap, ◌∙◌, inl, inr}
use Rattle.std.proofs.Common.{arith, ⊎_elim, zero-le, subst}
use Rattle.std.specs.Prelude.{sum}
use Rattle.std.proofs.lemmas.List.Sums.{sum_by_more, sum_by-take-le, sum_by-take-drop}
use Rattle.std.proofs.lemmas.List.{length-drop, length-take-le, length-append, take-take, take-append-drop, append_assoc, drop-take}
use Rattle.std.proofs.lemmas.List.{drop_at, drop-append-le}
use Rattle.std.proofs.lemmas.Bool.{cases_lt}
use Rattle.cadence_schedule.specs.Plan.{IsTight, IsFewest, FitsPacket, IsGroup, EndsLate}
use Rattle.std.proofs.lemmas.List.Elements.{All-contains}
use Rattle.cadence_schedule.proofs.plans.PlanGroups.{Groups, LateGroups, admissible_in, tight_in}

-- A longer group that begins no later has at least the sum of this group and its next size.
within_longer : (extra xs : List ℕ) (n k : ℕ) → n < k → k ≤ length xs → sum (take n xs) + get_or xs n 0 ≤ sum (take (length extra + k) (extra ++ xs))
within_longer extra xs n k more room =
    let whole = extra ++ xs in
    let step : sum (take (n + 1) xs) ≡ sum (take n xs) + get_or xs n 0 = sum_by_more (λ y. y) xs n 0 (omega arith) in
    let cut : take (n + 1) (take k xs) ≡ take (n + 1) xs = take-take (n + 1) k xs (omega arith) in
    let shorter : sum (take (n + 1) (take k xs)) ≤ sum (take k xs) = sum_by-take-le (λ y. y) (take k xs) (n + 1) in
    let back : drop (length extra) (take (length extra + k) (extra ++ xs)) ≡ take k xs = drop-take (length extra) k (extra ++ xs)
    ∙ ap (λ l. take k l) (drop_at extra xs (length extra) refl) in
    let parts : sum (take (length extra) (take (length extra + k) (extra ++ xs))) + sum
    (drop (length extra) (take (length extra + k) (extra ++ xs))) ≡ sum (take (length extra + k) (extra ++ xs)) =
    sum_by-take-drop (λ y. y) (take (length extra + k) (extra ++ xs)) (length extra) in
    omega (arith, ap sum cut, ap sum back)

-- Two or more sizes may share a packet only if their sum is within the capacity.
together : (capacity : ℕ) (group : List ℕ) → 1 < length group → FitsPacket capacity group → sum group ≤ capacity
together capacity group more (inl one) = absurd (omega arith)
together capacity group more (inr within) = within

-- No other group that begins at this group's place or before it ends later.
not_longer : (capacity : ℕ) (marks : List ℕ) (start n m : ℕ) (extra xs : List ℕ) → IsGroup capacity marks (start + length extra) n xs
    → EndsLate capacity marks (start + length extra) n xs → IsGroup capacity marks start m (extra ++ xs) → length extra + n < m → ⊥
not_longer capacity marks start n m extra xs group late other longer =
    let k = m - length extra in
    let total : length (extra ++ xs) ≡ length extra + length xs = length-append extra xs in
    let same : length extra + (m - length extra) ≡ m = omega arith in
    let inside : sum (take n xs) + get_or xs n 0 ≤ sum (take m (extra ++ xs)) =
    subst (λ c. sum (take n xs) + get_or xs n 0 ≤ sum (take c (extra ++ xs))) same
    (within_longer extra xs n (m - length extra) (omega arith) (omega (arith, other.within))) in
    let all : sum (take m (extra ++ xs)) ≤ capacity =
    together capacity (take m (extra ++ xs)) (omega (arith, length-take-le m (extra ++ xs) other.within, group.nonempty)) other.fits in
    let passes : capacity < sum (take n xs) + get_or xs n 0 =
    late (omega (arith, other.within)) (λ has. let past : start + m ≤ (start + length extra) + n = All-contains
    (λ mark. start < mark → start + m ≤ mark) marks ((start + length extra) + n) other.none_inside has
    (omega (arith, group.nonempty)) in absurd (omega arith)) (omega arith) (omega arith) in
    absurd (omega arith)

pub ahead : (capacity : ℕ) (marks : List ℕ) (start : ℕ) (extra xs plan other : List ℕ)
    → Groups capacity marks (start + length extra) plan xs → LateGroups capacity marks (start + length extra) plan xs
    → Groups capacity marks start other (extra ++ xs) → length plan ≤ length other
ahead capacity marks start extra xs [] other g late h = zero-le
ahead capacity marks start extra xs (n ∷ plan) [] (first, rest) late h = absurd (omega (arith, length-append extra xs, first.within, first.nonempty))
ahead capacity marks start extra xs (n ∷ plan) (m ∷ other) (first, rest) (late, lates) (second, others) =
    ⊎_elim
    (λ (longer : length extra + n < m). absurd (not_longer capacity marks start n m extra xs first late second longer))
    (λ (within : m ≤ length extra + n).
    let mid = extra ++ take n xs in
    let mid_length : length (extra ++ take n xs) ≡ length extra + n =
    omega (arith, length-append extra (take n xs), length-take-le n xs first.within) in
    let split : drop m (extra ++ xs) ≡ drop m (extra ++ take n xs) ++ drop n xs =
    ap (λ l. drop m l) (ap (λ l. extra ++ l) (sym (take-append-drop n xs)) ∙ sym (append_assoc extra (take n xs) (drop n xs)))
    ∙ drop-append-le m (extra ++ take n xs) (drop n xs) (omega arith) in
    let place : start + length extra + n ≡ start + m + length (drop m (extra ++ take n xs)) = omega (arith, length-drop m (extra ++ take n xs)) in
    let below : length plan ≤ length other =
    ahead capacity marks (start + m) (drop m (extra ++ take n xs)) (drop n xs) plan other
    (subst (λ p. Groups capacity marks p plan (drop n xs)) place rest)
    (subst (λ p. LateGroups capacity marks p plan (drop n xs)) place lates)
    (subst (λ l. Groups capacity marks (start + m) other l) split others) in
    let goal : length (n ∷ plan) ≤ length (m ∷ other) = omega arith in goal)
    (cases_lt (length extra + n) m)

pub fewest : (capacity : ℕ) (marks sizes plan : List ℕ) → IsTight capacity marks sizes plan → IsFewest capacity marks sizes plan
fewest capacity marks sizes plan tight = record {
  admissible = tight.admissible;
  least = λ other h.
      let (g, late) = tight_in capacity marks sizes plan tight in
      ahead capacity marks 0 [] sizes plan other g late (admissible_in capacity marks sizes other h);
}
