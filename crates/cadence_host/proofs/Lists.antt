-- Lists of values and their numbers that grow by one, and the first element of a list.
use Rattle.std.proofs.Common.{◌≡◌, ◌<◌, ◌+◌, ℕ, List, [], ◌∷◌, ◌++◌, None, refl, sym, subst, slice_get, take, length, get_or, rules, suc, arith, ap}
use Rattle.std.proofs.Math.Seq.{take-suc}
use Rattle.cadence_value.specs.Number.{Number}
use Rattle.cadence_host.specs.Calls.{ArePairs}

-- If numbers belong to values, and one more number to one more value, the longer lists belong together too.
one_pair_more : {A : Type 0} (belongs : A → Number → Type 0) (vs : List A) (ns : List Number) (v : A) (n : Number) → ArePairs belongs vs ns → belongs v n
    → ArePairs belongs (vs ++ v ∷ []) (ns ++ n ∷ [])
one_pair_more belongs [] [] v n hs h = (h, tt)
one_pair_more belongs [] (m ∷ ns) v n hs h = absurd hs
one_pair_more belongs (c ∷ vs) [] v n hs h = absurd hs
one_pair_more belongs (c ∷ vs) (m ∷ ns) v n hs h = (hs.0, one_pair_more belongs vs ns v n hs.1 h)

-- If numbers belong to the first i values, and one more to the next value, they belong to the first i + 1.
pub next_pair : {A : Type 0} (belongs : A → Number → Type 0) (vs : List A) (i : ℕ) (ns : List Number) (v : A) (n : Number) → i < length vs
    → ArePairs belongs (take i vs) ns → belongs (get_or vs i v) n → ArePairs belongs (take (i + 1) vs) (ns ++ n ∷ [])
next_pair {A} belongs vs i ns v n lt hs h =
    let one : suc i ≡ i + 1 = omega arith in
    subst (λ (k : ℕ). ArePairs belongs (take k vs) (ns ++ n ∷ [])) one
    (subst (λ (l : List A). ArePairs belongs l (ns ++ n ∷ [])) (sym (take-suc vs i v lt)) (one_pair_more belongs (take i vs) ns (get_or vs i v) n hs h))

-- There are as many numbers as values to which they belong.
pub pairs_count : {A : Type 0} (belongs : A → Number → Type 0) (vs : List A) (ns : List Number) → ArePairs belongs vs ns → length ns ≡ length vs
pairs_count belongs [] [] hs = refl
pairs_count belongs [] (n ∷ ns) hs = absurd hs
pairs_count belongs (v ∷ vs) [] hs = absurd hs
pairs_count belongs (v ∷ vs) (n ∷ ns) hs = ap suc (pairs_count belongs vs ns hs.1)

-- A list without a first element is empty.
pub empty_of_none : {X : Type 0} (xs : List X) → slice_get xs 0 ≡ None → xs ≡ []
empty_of_none [] h = refl
empty_of_none (x ∷ xs) h = absurd (search (rules, h))
