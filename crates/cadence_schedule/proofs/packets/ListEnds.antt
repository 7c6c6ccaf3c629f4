-- Lists, and lists of groups, that end in a known element.
use Rattle.std.proofs.Common.{◌≡◌, ◌⊎◌, List, [], ◌∷◌, ◌++◌, length, refl, sym, ap, ◌∙◌, inl, inr, map}
use Rattle.std.specs.List.{flat_map}
use Rattle.std.proofs.lemmas.List.{take_at, drop_at, append-nil, append_assoc, same_from_push}
use Rattle.cadence_schedule.specs.Plan.{groups_of}

-- A list is empty, or it has a last element.
pub ends : {X : Type 0} (xs : List X) → (xs ≡ []) ⊎ ((front : List X) × (last : X) × (xs ≡ front ++ last ∷ []))
ends [] = inl refl
ends (x ∷ xs) =
    elim (ends xs) [
      | inl e ↦ inr ([], x, ap (λ l. x ∷ l) e)
      | inr f ↦ let (front, last, e) = f in inr (x ∷ front, last, ap (λ l. x ∷ l) e)
    ]

-- If a list that ends in z is cut in two, the second part is empty or ends in z.
pub split_end : {X : Type 0} (front back xs : List X) (z : X) → front ++ back ≡ xs ++ z ∷ []
    → ((back ≡ []) × (front ≡ xs ++ z ∷ [])) ⊎ ((rest : List X) × (back ≡ rest ++ z ∷ []) × (xs ≡ front ++ rest))
split_end front back xs z e =
    elim (ends back) [
      | inl none ↦ inl (none, sym (append-nil front) ∙ ap (λ b. front ++ b) (sym none) ∙ e)
      | inr some ↦
          let (rest, last, f) = some in
          let whole : (front ++ rest) ++ last ∷ [] ≡ xs ++ z ∷ [] = append_assoc front rest (last ∷ []) ∙ ap (λ b. front ++ b) (sym f) ∙ e in
          let (fronts, lasts) = same_from_push (front ++ rest) xs last z whole in
          inr (rest, f ∙ ap (λ l. rest ++ l ∷ []) lasts, sym fronts)
    ]

-- the elements of all groups, in order; the list is cut by the lengths of its groups into these groups
abbrev pub joined : {X : Type 0} → List (List X) → List X
joined groups = flat_map (λ group. group) groups

pub groups_of-lengths : {X : Type 0} (groups : List (List X)) → groups_of (map length groups) (joined groups) ≡ groups
groups_of-lengths [] = refl
groups_of-lengths (group ∷ groups) =
    λ i. take_at group (joined groups) (length group) refl i ∷ (ap (groups_of (map length groups)) (drop_at group (joined groups) (length group) refl)
    ∙ groups_of-lengths groups) i

-- Of two neighbours in a list that ends in z, the second is that z, or both come before it.
pub neighbours_end : {X : Type 0} (xs : List X) (z : X) (before after : List X) (x y : X) → xs ++ z ∷ [] ≡ before ++ (x ∷ y ∷ after)
    → ((y ≡ z) × (xs ≡ before ++ x ∷ [])) ⊎ ((rest : List X) × (xs ≡ before ++ (x ∷ y ∷ rest)))
neighbours_end {X} xs z before after x y e =
    elim (split_end before (x ∷ y ∷ after) xs z (sym e)) [
      | inl none ↦ absurd (let bad : ◌≡◌ {A = List X} (x ∷ y ∷ after) [] = none.0 in cc)
      | inr some ↦ let (rest, back, front) = some in by_rest rest back front
    ]
  where
    by_rest : (rest : List X) → ◌≡◌ {A = List X} (x ∷ y ∷ after) (rest ++ z ∷ []) → xs ≡ before ++ rest
        → ((y ≡ z) × (xs ≡ before ++ x ∷ [])) ⊎ ((rest : List X) × (xs ≡ before ++ (x ∷ y ∷ rest)))
    by_rest [] back front = absurd cc
    by_rest (r ∷ []) back front = let first : x ≡ r = cc back in let second : y ≡ z = cc back in inl (
      second,
      front
          ∙ ap (λ w. before ++ w ∷ []) (sym first),
    )
    by_rest (r ∷ s ∷ rest) back front = let first : x ≡ r = cc back in let second : y ≡ s = cc back in inr (
      rest,
      front
          ∙ (λ i. before ++ (sym first i ∷ sym second i ∷ rest)),
    )
