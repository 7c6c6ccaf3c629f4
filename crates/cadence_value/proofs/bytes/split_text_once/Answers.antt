use Rattle.std.proofs.Common.{◌≡◌, ℕ, ◌+◌, ◌<◌, ◌∙◌, List, [], ◌∷◌, ◌++◌, ap, append_assoc, arith, drop, get_or, length, length-append}
use Rattle.std.proofs.Common.{refl, subst, sym, take}
use Rattle.std.specs.Str.{IsUtf8}
use Rattle.std.proofs.lemmas.List.{drop_at, get_or_at, take_at}
use Rattle.std.proofs.lemmas.Str.{IsCharBoundary-after_ascii, IsCharBoundary-before_ascii, IsUtf8-drop, IsUtf8-take}
use Rattle.cadence_value.proofs.bytes.split_text_once.Goals as goal

-- If a text in UTF-8 is split at an ASCII character, then both sides are in UTF-8.
module _ (text front rest : List ℕ) (mark : ℕ) (low : mark < 128) (utf8 : IsUtf8 text) (whole : text ≡ front ++ mark ∷ rest) where
  here : length front < length text
  here = omega (arith, ap length whole, length-append front (mark ∷ rest))

  at_mark : get_or text (length front) 0 < 128
  at_mark = subst (λ b. b < 128) (sym (ap (λ t. get_or t (length front) 0) whole ∙ get_or_at front mark rest 0 (length front) refl)) low

  front_utf8 : IsUtf8 front
  front_utf8 =
      subst IsUtf8 (ap (take (length front)) whole ∙ take_at front (mark ∷ rest) (length front) refl)
      (IsUtf8-take text (length front) utf8 (IsCharBoundary-before_ascii text (length front) here at_mark))

  rest_utf8 : IsUtf8 rest
  rest_utf8 =
      subst IsUtf8 (ap (drop (length front + 1)) (whole ∙ sym (append_assoc front (mark ∷ []) rest))
      ∙ drop_at (front ++ mark ∷ []) rest (length front + 1) (length-append front (mark ∷ [])))
      (IsUtf8-drop text (length front + 1) utf8 (IsCharBoundary-after_ascii text (length front) utf8 here at_mark))

pub from_utf8_unchecked-front-requires : goal.from_utf8_unchecked-front-requires
from_utf8_unchecked-front-requires c =
    front_utf8 c.args.text.now c.in_ok-front.front.now c.in_ok-front.rest.now c.args.mark c.requires c.utf8.text (sym c.as_bytes.ensures.value
    ∙ c.in_ok-front.ensures.whole)

pub from_utf8_unchecked-rest-requires : goal.from_utf8_unchecked-rest-requires
from_utf8_unchecked-rest-requires c =
    rest_utf8 c.args.text.now c.in_ok-front.front.now c.in_ok-front.rest.now c.args.mark c.requires c.utf8.text (sym c.as_bytes.ensures.value
    ∙ c.in_ok-front.ensures.whole)
