-- If a text in UTF-8 is cut at ASCII characters, then its parts are in UTF-8.
use Rattle.std.proofs.Common.{◌≡◌, ℕ, ◌+◌, ◌<◌, ◌∙◌, List, [], ◌∷◌, ◌++◌, ap, append_assoc, arith, drop, get_or, length, length-append}
use Rattle.std.proofs.Common.{refl, subst, sym, take}
use Rattle.std.specs.Str.{IsUtf8}
use Rattle.std.proofs.lemmas.List.{append-nil, drop_at, get_or_at, take_at}
use Rattle.std.proofs.lemmas.Str.{IsCharBoundary-after_ascii, IsCharBoundary-before_ascii, IsUtf8-drop, IsUtf8-nil, IsUtf8-take}
use Rattle.cadence_read.specs.Cuts.{AreFields, IsCut, Parts}

module _ (text front rest : List ℕ) (mark : ℕ) (low : mark < 128) (utf8 : IsUtf8 text) (whole : text ≡ front ++ mark ∷ rest) where
  here : length front < length text
  here = omega (arith, ap length whole, length-append front (mark ∷ rest))

  at_mark : get_or text (length front) 0 < 128
  at_mark = subst (λ b. b < 128) (sym (ap (λ t. get_or t (length front) 0) whole ∙ get_or_at front mark rest 0 (length front) refl)) low

  pub before_mark : IsUtf8 front
  before_mark =
      subst IsUtf8 (ap (take (length front)) whole ∙ take_at front (mark ∷ rest) (length front) refl)
      (IsUtf8-take text (length front) utf8 (IsCharBoundary-before_ascii text (length front) here at_mark))

  pub from_mark : IsUtf8 (mark ∷ rest)
  from_mark =
      subst IsUtf8 (ap (drop (length front)) whole ∙ drop_at front (mark ∷ rest) (length front) refl)
      (IsUtf8-drop text (length front) utf8 (IsCharBoundary-before_ascii text (length front) here at_mark))

  pub after_mark : IsUtf8 rest
  after_mark =
      subst IsUtf8 (ap (drop (length front + 1)) (whole ∙ sym (append_assoc front (mark ∷ []) rest))
      ∙ drop_at (front ++ mark ∷ []) rest (length front + 1) (length-append front (mark ∷ [])))
      (IsUtf8-drop text (length front + 1) utf8 (IsCharBoundary-after_ascii text (length front) utf8 here at_mark))

-- a text that is cut before its first bar, or at its end
pub field_utf8 : (text front fields : List ℕ) → IsUtf8 text → text ≡ front ++ fields → AreFields fields → IsUtf8 front × IsUtf8 fields
field_utf8 text front [] utf8 whole are = (subst IsUtf8 (whole ∙ append-nil front) utf8, IsUtf8-nil)
field_utf8 text front (byte ∷ bytes) utf8 whole are =
    let low : byte < 128 = omega (arith, are) in
    (before_mark text front bytes byte low utf8 whole, from_mark text front bytes byte low utf8 whole)

-- the parts of a line
pub record AreUtf8 (p : Parts) : Type 0 where
  pub name : IsUtf8 p.name
  pub values : IsUtf8 p.values
  pub kind : IsUtf8 p.kind
  pub fields : IsUtf8 p.fields

pub parts_utf8 : (line : List ℕ) (p : Parts) → IsUtf8 line → IsCut line p → AreUtf8 p
parts_utf8 line p utf8 cut =
    let others = p.kind ++ p.fields in
    let low : 58 < 128 = omega arith in
    let bar : 124 < 128 = omega arith in
    let rest = after_mark line p.name (p.values ++ 124 ∷ others) 58 low utf8 cut.whole in
    let ends = after_mark (p.values ++ 124 ∷ others) p.values others 124 bar rest refl in
    let last = field_utf8 others p.kind p.fields ends refl cut.fields in
    record {
      name = before_mark line p.name (p.values ++ 124 ∷ others) 58 low utf8 cut.whole;
      values = before_mark (p.values ++ 124 ∷ others) p.values others 124 bar rest refl;
      kind = last.0;
      fields = last.1;
    }
