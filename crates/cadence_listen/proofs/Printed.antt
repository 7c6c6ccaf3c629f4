-- What is printed of the lines of a packet.
use Rattle.std.proofs.Common.{◌≡◌, ℕ, List, [], ◌∷◌, ◌++◌, Bool, true, false, refl, sym, ap, ◌∙◌, subst}
use Rattle.std.proofs.lemmas.List.{append-nil, append_assoc}
use Rattle.cadence_listen.specs.Rows.{AreRows, IsRowOf}
use Rattle.cadence_listen.specs.declared.filter.Filter.{Filter}
use Rattle.cadence_listen.specs.declared.watch.Origin.{Origin}

pub fails : {P : Type 0} {b : Bool} → (P → b ≡ true) → b ≡ false → P → ⊥
fails test is p = let t = test p in cc

module _ (filter : Filter) (origin : Origin) (all : List (List ℕ)) where
  -- What is printed of the texts that are left, behind what is printed so far, is what is printed of all.
  abbrev pub GoesOn : List (List ℕ) → List ℕ → Type 0
  GoesOn left text = (rest : List ℕ) → AreRows filter origin left rest → AreRows filter origin all (text ++ rest)

  -- The row of the first text that is left is printed.
  pub goes_on : (left later : List (List ℕ)) (piece text next row : List ℕ) → left ≡ piece ∷ later → next ≡ text ++ row
      → IsRowOf filter origin piece row → GoesOn left text → GoesOn later next
  goes_on left later piece text next row e is printed on = λ rest h.
      let one : AreRows filter origin left (row ++ rest) =
      subst (λ ps. AreRows filter origin ps (row ++ rest)) (sym e) (row, rest, printed, h, refl) in
      subst (AreRows filter origin all) (sym (ap (λ t. t ++ rest) is ∙ append_assoc text row rest)) (on (row ++ rest) one)

  -- No text is left.
  pub is_all : (left : List (List ℕ)) (text : List ℕ) → left ≡ [] → GoesOn left text → AreRows filter origin all text
  is_all left text e on =
      subst (AreRows filter origin all) (append-nil text) (on [] (subst (λ ps. AreRows filter origin ps []) (sym e) refl))
