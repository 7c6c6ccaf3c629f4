-- A loop over a list: what is true of the elements that it has passed is true of each element at its end.
use Rattle.std.proofs.Common.{◌≡◌, ℕ, ◌+◌, ◌<◌, ◌≤◌, List, ◌∷◌, length, map, take, get_or, subst}
use Rattle.std.specs.List.{All}
use Rattle.std.proofs.lemmas.List.{take_all}
use Rattle.std.proofs.lemmas.List.Elements.{All-cons, All-map, All-more, All-same}

pub All-one_more : {X : Type 0} (P : X → Type 0) (xs : List X) (i : ℕ) (x : X) → i < length xs → x ≡ get_or xs i x → All P (take i xs) → P x
    → All P (take (i + 1) xs)
All-one_more P xs i x within is before here = All-more P xs i x within before (subst P is here)

pub All-split : {X Y : Type 0} (P : Y → Type 0) (f : X → Y) (xs : List X) (first : X) (others : List X) (n : ℕ) → xs ≡ first ∷ others
    → P (f first) → length others ≤ n → All (λ x. P (f x)) (take n others) → All P (map f xs)
All-split P f xs first others n e one whole more =
    All-map P f xs (All-same (λ x. P (f x)) xs (first ∷ others) e (All-cons (λ x. P (f x)) first others one
    (subst (λ l. All (λ x. P (f x)) l) (take_all n others whole) more)))
