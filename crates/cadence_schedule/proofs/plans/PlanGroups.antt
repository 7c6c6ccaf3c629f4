-- A plan, group by group from a place in the list on: what `IsAdmissible` and `IsTight` say, by recursion on the plan.
use Rattle.std.proofs.Common.{◌≡◌, ℕ, zero, suc, zero-le, ◌+◌, ◌-◌, ◌<◌, ◌≤◌, ◌⊎◌, List, [], ◌∷◌, ◌++◌, length, take, drop, get_or, refl}
use Rattle.std.proofs.Common.{sym, ap, ◌∙◌, inl, inr, arith, ⊎_elim, subst}
use Rattle.std.specs.Prelude.{sum, All, Contains}
use Rattle.std.specs.List.{concat}
use Rattle.std.proofs.lemmas.List.Sums.{sum_by-cons, get_or-le-sum_by}
use Rattle.std.proofs.lemmas.List.Elements.{All-cons, All-head, All-tail, All-contains, All-nil, Contains-get_or}
use Rattle.std.proofs.lemmas.List.{length-drop, length-take-le, get_or-drop, get_or-take, length-append}
use Rattle.std.proofs.lemmas.Bool.{cases_lt, cases_order}
use Rattle.cadence_schedule.specs.Plan.{IsGroup, EndsLate, groups_of, FitsPacket, IsAdmissible, IsTight}

abbrev pub Groups : ℕ → List ℕ → ℕ → List ℕ → List ℕ → Type 0
Groups capacity marks start [] xs = length xs ≡ 0
Groups capacity marks start (count ∷ plan) xs = IsGroup capacity marks start count xs × Groups capacity marks (start + count) plan (drop count xs)

abbrev pub LateGroups : ℕ → List ℕ → ℕ → List ℕ → List ℕ → Type 0
LateGroups capacity marks start [] xs = Unit {0}
LateGroups capacity marks start (count ∷ plan) xs =
    EndsLate capacity marks start count xs × LateGroups capacity marks (start + count) plan (drop count xs)

-- The plan from `start` on has the end of a group at each mark.
abbrev pub Marked : List ℕ → ℕ → List ℕ → ℕ → Type 0
Marked marks start plan len = (p : ℕ) → Contains marks p → start ≤ p → p ≤ start + len → (k : ℕ) × (start + sum (take k plan) ≡ p)

pub sum-cons : (x : ℕ) (xs : List ℕ) → sum (x ∷ xs) ≡ x + sum xs
sum-cons x xs = sum_by-cons (λ y. y) x xs

-- A place after `start` at which a group of a plan ends is also an end of a group of the plan without its first group.
end_past : (start count : ℕ) (plan : List ℕ) (p : ℕ) → start < p → (k : ℕ) × (start + sum (take k (count ∷ plan)) ≡ p)
    → (k : ℕ) × ((start + count) + sum (take k plan) ≡ p)
end_past start count plan p after (zero, e) = absurd (omega arith)
end_past start count plan p after (suc k, e) = (k, omega (arith, sum-cons count (take k plan)))

not_inside : (start count : ℕ) (plan : List ℕ) (p : ℕ) → start < p → (k : ℕ) × (start + sum (take k (count ∷ plan)) ≡ p) → start + count ≤ p
not_inside start count plan p after (zero, e) = absurd (omega arith)
not_inside start count plan p after (suc k, e) = omega (arith, sum-cons count (take k plan))

le_or_past : (a b : ℕ) → (a ≤ b) ⊎ (b < a)
le_or_past a b = ⊎_elim (λ (h : b < a). inr h) (λ (h : a ≤ b). inl h) (cases_lt b a)

pub groups_in : (capacity : ℕ) (marks : List ℕ) (start : ℕ) (plan xs : List ℕ) → All (λ n. 0 < n) plan → sum plan ≡ length xs
    → All (FitsPacket capacity) (groups_of plan xs) → Marked marks start plan (length xs) → Groups capacity marks start plan xs
groups_in capacity marks start [] xs positive whole fit marked = sym whole
groups_in capacity marks start (count ∷ plan) xs positive whole fit marked =
    let first : 0 < count = All-head (λ n. 0 < n) count plan positive in
    let all : sum (count ∷ plan) ≡ count + sum plan = sum-cons count plan in
    let within : count ≤ length xs = omega arith in
    let rest : length (drop count xs) ≡ length xs - count = length-drop count xs in (
      record {
        nonempty = first;
        within = within;
        fits = All-head (FitsPacket capacity) (take count xs) (groups_of plan (drop count xs)) fit;
        none_inside =
            λ i d in_list after. let p = get_or marks i d in let has : Contains marks (get_or marks i d) = Contains-get_or marks i d in_list in ⊎_elim
            (λ (inside : get_or marks i d ≤ start + length xs). not_inside start count plan (get_or marks i d) after
            (marked (get_or marks i d) has (omega arith) inside))
            (λ (past : start + length xs < get_or marks i d). let goal : start + count ≤ get_or marks i d = omega arith in goal)
            (le_or_past (get_or marks i d) (start + length xs));
      },
      groups_in capacity marks (start + count) plan (drop count xs) (All-tail (λ n. 0 < n) count plan positive) (omega arith)
          (All-tail (FitsPacket capacity) (take count xs) (groups_of plan (drop count xs)) fit)
          (λ p has from to. end_past start count plan p (omega arith) (marked p has (omega arith) (omega arith))),
    )

-- A plan whose groups are right one by one is admissible. The lemmas that follow show each part of that.
pub all_positive : (capacity : ℕ) (marks : List ℕ) (start : ℕ) (plan xs : List ℕ) → Groups capacity marks start plan xs → All (λ n. 0 < n) plan
all_positive capacity marks start [] xs g = All-nil (λ n. 0 < n)
all_positive capacity marks start (count ∷ plan) xs (first, rest) =
    All-cons (λ n. 0 < n) count plan first.nonempty (all_positive capacity marks (start + count) plan (drop count xs) rest)

pub sum_whole : (capacity : ℕ) (marks : List ℕ) (start : ℕ) (plan xs : List ℕ) → Groups capacity marks start plan xs → sum plan ≡ length xs
sum_whole capacity marks start [] xs g = sym g
sum_whole capacity marks start (count ∷ plan) xs (first, rest) =
    omega (arith, sum-cons count plan, first.within, length-drop count xs, sum_whole capacity marks (start + count) plan (drop count xs) rest)

pub all_fit : (capacity : ℕ) (marks : List ℕ) (start : ℕ) (plan xs : List ℕ) → Groups capacity marks start plan xs
    → All (FitsPacket capacity) (groups_of plan xs)
all_fit capacity marks start [] xs g = All-nil (FitsPacket capacity)
all_fit capacity marks start (count ∷ plan) xs (first, rest) =
    All-cons (FitsPacket capacity) (take count xs) (groups_of plan (drop count xs)) first.fits
    (all_fit capacity marks (start + count) plan (drop count xs) rest)

pub all_marked : (capacity : ℕ) (marks : List ℕ) (start : ℕ) (plan xs : List ℕ) → Groups capacity marks start plan xs
    → Marked marks start plan (length xs)
all_marked capacity marks start [] xs g p has from to = (0, omega arith)
all_marked capacity marks start (count ∷ plan) xs (first, rest) p has from to =
    ⊎_elim
    (λ (at : start ≡ p). let found : (k : ℕ) × (start + sum (take k (count ∷ plan)) ≡ p) = (0, omega arith) in found)
    (⊎_elim
    (λ (after : start < p).
    let beyond : start + count ≤ p = All-contains (λ mark. start < mark → start + count ≤ mark) marks p first.none_inside has after in
    let (k, e) =
    all_marked capacity marks (start + count) plan (drop count xs) rest p has beyond (omega (arith, length-drop count xs, first.within)) in
    let found : (k : ℕ) × (start + sum (take k (count ∷ plan)) ≡ p) = (suc k, omega (arith, sum-cons count (take k plan))) in found)
    (λ (before : p < start). absurd (omega arith)))
    (cases_order start p)

-- The first size of a group is at most the sum of the group.
first_le_sum : (xs : List ℕ) → 0 < length xs → get_or xs 0 0 ≤ sum xs
first_le_sum xs some = get_or-le-sum_by (λ y. y) xs 0 0 some

-- If a group fits a packet, and its first size is within the capacity, then its sum is within the capacity.
sum_within : (capacity : ℕ) (group : List ℕ) → FitsPacket capacity group → get_or group 0 0 ≤ capacity → sum group ≤ capacity
sum_within capacity [] fits first = zero-le
sum_within capacity (x ∷ []) fits first = omega (arith, sum-cons x [])
sum_within capacity (x ∷ y ∷ group) (inl one) first = absurd (omega arith)
sum_within capacity (x ∷ y ∷ group) (inr together) first = together

-- If a place has no mark, an equal place has none.
pub not_at : (marks : List ℕ) (p q : ℕ) → p ≡ q → ¬ Contains marks p → ¬ Contains marks q
not_at marks p q e none has = none (subst (λ r. Contains marks r) (sym e) has)

-- The first of two neighbour groups has no room for the first size of the second, if both are within the capacity.
abbrev pub HasNoRoomForNext : ℕ → List ℕ → List ℕ → Type 0
HasNoRoomForNext capacity group next = sum group ≤ capacity → sum next ≤ capacity → capacity < sum group + get_or next 0 0

-- No group from `start` on could have had one size more, except where it ends at a mark. (`no_later` of `IsTight` says
-- so of the whole plan.)
abbrev pub NoLater : ℕ → List ℕ → ℕ → List (List ℕ) → Type 0
NoLater capacity marks start groups =
    (before after : List (List ℕ)) (group next : List ℕ) → groups ≡ before ++ (group ∷ next ∷ after)
    → ¬ Contains marks (start + length (concat (before ++ group ∷ []))) → HasNoRoomForNext capacity group next

-- The first size of the second group is the one after the first group.
first_of_next : (count n : ℕ) (xs : List ℕ) → 0 < n → get_or (take n (drop count xs)) 0 0 ≡ get_or xs count 0
first_of_next count n xs some = get_or-take n (drop count xs) 0 0 some ∙ get_or-drop count xs 0 0 ∙ ap (λ i. get_or xs i 0) (omega arith)

length_first : (count : ℕ) (xs more : List ℕ) → count ≤ length xs → length (take count xs ++ more) ≡ count + length more
length_first count xs more h = omega (arith, length-append (take count xs) more, length-take-le count xs h)

late_first : (capacity : ℕ) (marks : List ℕ) (start count : ℕ) (plan xs : List ℕ) → Groups capacity marks start (count ∷ plan) xs
    → NoLater capacity marks start (groups_of (count ∷ plan) xs) → EndsLate capacity marks start count xs
late_first capacity marks start count [] xs (first, rest) late more unmarked within next_within = absurd (omega (arith, length-drop count xs))
late_first capacity marks start count (n ∷ plan) xs (first, (second, rest)) late more unmarked within next_within =
    let next = take n (drop count xs) in
    let head : get_or (take n (drop count xs)) 0 0 ≡ get_or xs count 0 = first_of_next count n xs second.nonempty in
    let next_fits : sum (take n (drop count xs)) ≤ capacity = sum_within capacity (take n (drop count xs)) second.fits (omega arith) in
    let border : start + count ≡ start + length (take count xs ++ []) = omega (arith, length_first count xs [] first.within) in
    let passes : capacity < sum (take count xs) + get_or (take n (drop count xs)) 0 0 =
    late [] (groups_of plan (drop n (drop count xs))) (take count xs) (take n (drop count xs)) refl
    (not_at marks (start + count) (start + length (take count xs ++ [])) border unmarked) within next_fits in
    omega arith

pub late_in : (capacity : ℕ) (marks : List ℕ) (start : ℕ) (plan xs : List ℕ) → Groups capacity marks start plan xs
    → NoLater capacity marks start (groups_of plan xs) → LateGroups capacity marks start plan xs
late_in capacity marks start [] xs g late = tt
late_in capacity marks start (count ∷ plan) xs (first, rest) late = (
  late_first capacity marks start count plan xs (first, rest) late,
  late_in capacity marks (start + count) plan (drop count xs) rest
      (λ before after group next e unmarked. late (take count xs ∷ before) after group next (ap (λ gs. take count xs ∷ gs) e)
      (not_at marks (start + count + length (concat (before ++ group ∷ [])))
      (start + length (take count xs ++ concat (before ++ group ∷ [])))
      (omega (arith, length_first count xs (concat (before ++ group ∷ [])) first.within)) unmarked)),
)

late_out_first : (capacity : ℕ) (marks : List ℕ) (start count : ℕ) (plan xs : List ℕ) → Groups capacity marks start (count ∷ plan) xs
    → EndsLate capacity marks start count xs → (after : List (List ℕ)) (group next : List ℕ)
    → groups_of (count ∷ plan) xs ≡ group ∷ next ∷ after → ¬ Contains marks (start + length (group ++ []))
    → HasNoRoomForNext capacity group next
late_out_first capacity marks start count [] xs g late after group next e unmarked = absurd cc
late_out_first capacity marks start count (n ∷ plan) xs (first, (second, rest)) late after group next e unmarked = λ within next_within.
    let group_is : take count xs ≡ group = cc in
    let next_is : take n (drop count xs) ≡ next = cc in
    let head : get_or (take n (drop count xs)) 0 0 ≡ get_or xs count 0 = first_of_next count n xs second.nonempty in
    let size : get_or next 0 0 ≡ get_or xs count 0 = ap (λ g. get_or g 0 0) (sym next_is) ∙ head in
    let same : sum (take count xs) ≡ sum group = ap sum group_is in
    let more : count < length xs = omega (arith, length-drop count xs, second.within, second.nonempty) in
    let some : 0 < length next = omega (arith, ap length next_is, length-take-le n (drop count xs) second.within, second.nonempty) in
    let border : start + length (group ++ []) ≡ start + count =
    omega (arith, ap (λ g. length (g ++ [])) group_is, length_first count xs [] first.within) in
    let passes : capacity < sum (take count xs) + get_or xs count 0 =
    late more (not_at marks (start + length (group ++ [])) (start + count) border unmarked) (omega arith) (omega (arith, first_le_sum next some)) in
    omega arith

pub late_out : (capacity : ℕ) (marks : List ℕ) (start : ℕ) (plan xs : List ℕ) → Groups capacity marks start plan xs
    → LateGroups capacity marks start plan xs → NoLater capacity marks start (groups_of plan xs)
late_out capacity marks start [] xs g late [] after group next e unmarked = absurd cc
late_out capacity marks start [] xs g late (b ∷ before) after group next e unmarked = absurd cc
late_out capacity marks start (count ∷ plan) xs g (late, lates) [] after group next e unmarked =
    late_out_first capacity marks start count plan xs g late after group next e unmarked
late_out capacity marks start (count ∷ plan) xs (first, rest) (late, lates) (b ∷ before) after group next e unmarked =
    let group_is : take count xs ≡ b = cc in
    let tail_is : groups_of plan (drop count xs) ≡ before ++ (group ∷ next ∷ after) = cc in
    let border : start + length (b ++ concat (before ++ group ∷ [])) ≡ start + count + length (concat (before ++ group ∷ [])) =
    omega (
      arith,
      ap (λ g. length (g ++ concat (before ++ group ∷ []))) group_is,
      length_first count xs (concat (before ++ group ∷ []))
          first.within,
    ) in
    late_out capacity marks (start + count) plan (drop count xs) rest lates before after group next tail_is
    (not_at marks (start + length (b ++ concat (before ++ group ∷ []))) (start + count + length (concat (before ++ group ∷ []))) border unmarked)

-- The plan cuts the sizes `xs`, which are those after the first `start`, into groups that fit, and that could not have
-- been longer.
abbrev pub TightGroups : ℕ → List ℕ → ℕ → List ℕ → List ℕ → Type 0
TightGroups capacity marks start plan xs = Groups capacity marks start plan xs × LateGroups capacity marks start plan xs

pub admissible_in : (capacity : ℕ) (marks sizes plan : List ℕ) → IsAdmissible capacity marks sizes plan → Groups capacity marks 0 plan sizes
admissible_in capacity marks sizes plan h =
    groups_in capacity marks 0 plan sizes h.none_empty h.whole h.fit
    (λ p has from to. let (k, e) = All-contains (λ mark. mark ≤ length sizes → (k : ℕ) × (sum (take k plan) ≡ mark)) marks p h.marked has
    (omega arith) in (k, omega arith))

pub admissible_out : (capacity : ℕ) (marks sizes plan : List ℕ) → Groups capacity marks 0 plan sizes → IsAdmissible capacity marks sizes plan
admissible_out capacity marks sizes plan g = record {
  none_empty = all_positive capacity marks 0 plan sizes g;
  whole = sum_whole capacity marks 0 plan sizes g;
  fit = all_fit capacity marks 0 plan sizes g;
  marked =
      λ k d in_list within. let (j, e) =
      all_marked capacity marks 0 plan sizes g (get_or marks k d) (Contains-get_or marks k d in_list) zero-le (omega arith) in (j, omega arith);
}

pub tight_in : (capacity : ℕ) (marks sizes plan : List ℕ) → IsTight capacity marks sizes plan → TightGroups capacity marks 0 plan sizes
tight_in capacity marks sizes plan h =
    let g : Groups capacity marks 0 plan sizes = admissible_in capacity marks sizes plan h.admissible in (
      g,
      late_in capacity marks 0 plan sizes g (λ before after group next e unmarked. h.no_later before after group next e
          (not_at marks (0 + length (concat (before ++ group ∷ []))) (length (concat (before ++ group ∷ []))) (omega arith) unmarked)),
    )

pub tight_out : (capacity : ℕ) (marks sizes plan : List ℕ) → TightGroups capacity marks 0 plan sizes → IsTight capacity marks sizes plan
tight_out capacity marks sizes plan (g, late) = record {
  admissible = admissible_out capacity marks sizes plan g;
  no_later = λ before after group next e unmarked. late_out capacity marks 0 plan sizes g late before after group next e
      (not_at marks (length (concat (before ++ group ∷ []))) (0 + length (concat (before ++ group ∷ []))) (omega arith) unmarked);
}
