-- A loop that pushes a converted value for each element of a list: the pushed values are the list, converted.
use Rattle.std.proofs.Common.{◌≡◌, ℕ, ◌+◌, ◌<◌, ◌≤◌, List, [], ◌∷◌, ◌++◌, length, map, take, get_or, sym, ap, ap₂, ◌∙◌}
use Rattle.std.proofs.lemmas.List.{map-append, take_all, take_more}

-- If the next element of the list is converted and pushed, the pushed values are the beginning of the list, converted.
pub mapped_more : {X Y S : Type 0} (f : X → S) (g : Y → S) (xs : List X) (x : X) (ys : List Y) (k : ℕ) (y : Y) → k < length ys
    → y ≡ get_or ys k y → map f xs ≡ map g (take k ys) → f x ≡ g y → map f (xs ++ x ∷ []) ≡ map g (take (k + 1) ys)
mapped_more f g xs x ys k y inside is before here =
    let next : take (k + 1) ys ≡ take k ys ++ y ∷ [] = take_more ys k y inside ∙ ap (λ z. take k ys ++ z ∷ []) (sym is) in
    map-append f xs (x ∷ []) ∙ ap₂ (λ a b. a ++ b ∷ []) before here ∙ sym (map-append g (take k ys) (y ∷ [])) ∙ ap (map g) (sym next)

-- If as many values were pushed as the list has, the pushed values are the whole list, converted.
pub mapped_all : {X Y S : Type 0} (f : X → S) (g : Y → S) (xs : List X) (ys : List Y) (k : ℕ) → length ys ≤ k → map f xs ≡ map g (take k ys)
    → map f xs ≡ map g ys
mapped_all f g xs ys k whole before = before ∙ ap (map g) (take_all k ys whole)
