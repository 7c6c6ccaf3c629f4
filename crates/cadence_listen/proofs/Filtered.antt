-- Which lines a filter keeps.
use Rattle.std.proofs.Common.{◌≡◌, ◌≢◌, ℕ, List, [], ◌∷◌, ◌++◌, Option, Some, None, sym, ap, ◌∙◌, subst, inl, inr}
use Rattle.std.proofs.lemmas.List.{append_cancel_right}
use Rattle.std.specs.Option.{MatchOption, option_copied}
use Rattle.cadence_read.specs.LineTexts.{pieces_left}
use Rattle.cadence_listen.specs.Filters.{HasOne, IsLike, IsTagField, pieces}
use denote.Ref.{Bor}

-- A text that is like `front*` begins with the front.
pub like_begins : (pattern text front : List ℕ) → pattern ≡ front ++ 42 ∷ [] → IsLike pattern text → (rest : List ℕ) × (text ≡ front ++ rest)
like_begins pattern text front ends (inl same) = (42 ∷ [], same ∙ ends)
like_begins pattern text front ends (inr (other, rest, is, begins)) =
    let fronts : other ≡ front = append_cancel_right other front (42 ∷ []) (sym is ∙ ends) in
    (rest, begins ∙ ap (λ t. t ++ rest) fronts)

-- A text that is like a pattern without `*` at its end is the pattern.
pub like_same : (pattern text : List ℕ) → ((front : List ℕ) → pattern ≢ front ++ 42 ∷ []) → IsLike pattern text → text ≡ pattern
like_same pattern text none (inl same) = same
like_same pattern text none (inr (front, rest, is, begins)) = absurd (none front is)

-- It holds if and only if one of the texts that are left has the property.
pub record Tracks (Holds : Type 0) (Has : List ℕ → Type 0) (left : List (List ℕ)) : Type 0 where
  pub later : Holds → HasOne Has left
  pub here : HasOne Has left → Holds

not_first : (Has : List ℕ → Type 0) (piece : List ℕ) (rest : List (List ℕ)) → (Has piece → ⊥) → HasOne Has (piece ∷ rest) → HasOne Has rest
not_first Has piece rest none (inl has) = absurd (none has)
not_first Has piece rest none (inr later) = later

-- The first text doesn't have the property.
pub track_on : (Holds : Type 0) (Has : List ℕ → Type 0) (left : List (List ℕ)) (piece : List ℕ) (rest : List (List ℕ)) → left ≡ piece ∷ rest
    → (Has piece → ⊥) → Tracks Holds Has left → Tracks Holds Has rest
track_on Holds Has left piece rest e none t = record {
  later = λ h. not_first Has piece rest none (subst (HasOne Has) e (t.later h));
  here = λ one. t.here (subst (HasOne Has) (sym e) (inr one));
}

-- The first text has the property.
pub tracked : (Holds : Type 0) (Has : List ℕ → Type 0) (left : List (List ℕ)) (piece : List ℕ) (rest : List (List ℕ)) → left ≡ piece ∷ rest
    → Has piece → Tracks Holds Has left → Holds
tracked Holds Has left piece rest e has t = t.here (subst (HasOne Has) (sym e) (inl has))

-- No text is left.
pub tracked_none : (Holds : Type 0) (Has : List ℕ → Type 0) (left : List (List ℕ)) → left ≡ [] → Tracks Holds Has left → Holds → ⊥
tracked_none Holds Has left e t h = subst (HasOne Has) e (t.later h)

-- The tags of a field are what stands behind its `#`.
pub track_tags : (pattern field : List ℕ) (tags : Option (Bor (List ℕ)))
    → MatchOption tags ((rest : List ℕ) → field ≢ 35 ∷ rest) (λ x. field ≡ 35 ∷ x.now)
    → Tracks (IsTagField pattern field) (IsLike pattern) (pieces_left 44 (option_copied tags))
track_tags pattern field (Some x) is = record {
  later = λ (tags, e, one).
      let same : tags ≡ x.now = cc (sym e ∙ is) in subst (λ t. HasOne (IsLike pattern) (pieces 44 t)) same one;
  here = λ one. (x.now, is, one);
}
track_tags pattern field None none = record { later = λ (tags, e, one). absurd (none tags e); here = λ one. absurd one }
