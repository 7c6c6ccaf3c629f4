-- Values with a colon between each two, and whole numbers that fit 64 bits.
use Rattle.std.proofs.Common.{◌≡◌, ◌≢◌, ℕ, ℤ, Option, Some, None, List, [], ◌∷◌, ◌++◌, arith, refl, sym, ap, subst, ◌∙◌}
use Rattle.std.specs.Int.RustNames.{FitsSigned}
use Rattle.std.specs.Prelude.{All, IfNone}
use Rattle.std.proofs.lemmas.List.Elements.{All-from_recursion, recursion_from_All}
use mir.Syntax.{w64}
use Rattle.cadence_value.specs.Number.{IsDecimal, Number, whole}
use Rattle.cadence_value.specs.SpelledNumber.{SaysNumber}
use Rattle.cadence_value.proofs.spelling.OneReading.{number_once}
use Rattle.cadence_read.proofs.Pieces.{pieces, pieces-at, pieces-none}
use Rattle.cadence_read.specs.Values.{AreNumbers, IsNumberText}

module _ (text value others : List ℕ) (plain : All (λ byte. byte ≢ 58) value) (whole : text ≡ value ++ 58 ∷ others) where
  cut : pieces 58 text ≡ value ∷ pieces 58 others
  cut = ap (pieces 58) whole ∙ pieces-at 58 value others plain

  pub numbers_first : IsNumberText value → AreNumbers others → AreNumbers text
  numbers_first one rest =
      subst (All IsNumberText) (sym cut)
      (All-from_recursion IsNumberText (value ∷ pieces 58 others) (one, recursion_from_All IsNumberText (pieces 58 others) rest))

  pub numbers_later : AreNumbers text → IsNumberText value × AreNumbers others
  numbers_later all =
      let (one, rest) = recursion_from_All IsNumberText (value ∷ pieces 58 others) (subst (All IsNumberText) cut all) in
      (one, All-from_recursion IsNumberText (pieces 58 others) rest)

module _ (text : List ℕ) (plain : All (λ byte. byte ≢ 58) text) where
  pub number_only : IsNumberText text → AreNumbers text
  number_only one =
      subst (All IsNumberText) (sym (pieces-none 58 text plain)) (All-from_recursion IsNumberText (text ∷ []) (one, tt))

  pub only_number : AreNumbers text → IsNumberText text
  only_number all =
      let (one, none) = recursion_from_All IsNumberText (text ∷ []) (subst (All IsNumberText) (pieces-none 58 text plain) all) in one

pub whole_is_decimal : (n : ℤ) → FitsSigned w64 n → IsDecimal (whole n)
whole_is_decimal n fits = record { mantissa = grind (arith, fits); places = omega arith; lowest = refl }

-- Two whole numbers that a text says are one.
pub whole_none : (text : List ℕ) (number : Number) (r : Option ℤ) → SaysNumber text number → IfNone r ((n : ℤ) → FitsSigned w64 n → number ≡ whole n → ⊥)
    → IfNone r ((n : ℤ) → FitsSigned w64 n → SaysNumber text (whole n) → ⊥)
whole_none text number (Some k) says h = tt
whole_none text number None says h = λ n fits also. h n fits (number_once text number (whole n) says also)
