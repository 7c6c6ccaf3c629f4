-- The number that a sign and the digits on each side of a dot denote. `w` are the digits before the dot, `f` those after
-- it.
use Rattle.std.specs.Prelude.{◌≡◌, ◌≢◌, ℕ, ◌+◌, ◌-◌, ◌*◌, ◌^◌, ◌<◌, ◌≤◌, Bool, true, if◌then◌else◌, List, [], ◌∷◌, ◌++◌, codes, length, slice_index, ℤ, pos}
use Rattle.std.specs.Prelude.{neg_ℤ, Result, Ok, Err}
use Rattle.std.specs.Int.RustNames.{FitsSigned}
use Rattle.std.specs.Str.Parse.{AllDigits, IsNumeral, digits_value}
use mir.Syntax.{w128}
use Rattle.cadence_value.specs.Number.{Number, number, number_text, IsDecimal}
use Rattle.cadence_value.specs.declared.decimal.read.ParseDecimalError.{ParseDecimalError}
use Rattle.cadence_value.specs.declared.decimal.read.ParseDecimalError.TheVariants.{NotANumber, TooManyPlaces, TooLarge}

-- the whole number with a minus before it, or without one
abbrev pub signed_integer : Bool → ℕ → ℤ
signed_integer below n = if below then neg_ℤ (pos n) else pos n

-- For proofs. The rest of this file says how a decimal is read from its digits, for the contracts of private functions and
-- of helpers on bytes.

-- the digits before and after the dot as one whole number: 1250 for 12.50
abbrev pub joined_digits : List ℕ → List ℕ → ℕ
joined_digits w f = digits_value 10 w * 10 ^ length f + digits_value 10 f

-- the number that the sign and the digits denote
abbrev pub digits_number : Bool → List ℕ → List ℕ → Number
digits_number below w f = number (signed_integer below (joined_digits w f)) (length f)

-- There are digits before the dot, which do not begin with a needless zero, and only digits after it.
pub record ArePlain (w f : List ℕ) : Type 0 where
  pub whole : IsNumeral 10 w
  pub first : 1 < length w → slice_index w 0 ≢ 48
  pub fraction : AllDigits 10 f

-- The digits are `ArePlain`, at most 30 of them come after the dot, and as one whole number they fit 128 bits.
pub record HaveSize (w f : List ℕ) : Type 0 where
  pub plain : ArePlain w f
  pub places : length f ≤ 30
  pub small : joined_digits w f < 2 ^ 128

-- The digits are `ArePlain`, and there is no minus before a zero.
pub record AreSigned (below : Bool) (w f : List ℕ) : Type 0 where
  pub plain : ArePlain w f
  pub nonzero : below ≡ true → 0 < joined_digits w f

-- a dot and the digits after it, or nothing if there are none
abbrev pub dotted : List ℕ → List ℕ
dotted [] = []
dotted (d ∷ ds) = 46 ∷ d ∷ ds

-- the text that consists of a minus or nothing and of the digits on each side of a dot
abbrev pub digits_text : Bool → List ℕ → List ℕ → List ℕ
digits_text below w f = (if below then codes "-" else []) ++ (w ++ dotted f)

-- The text consists of these parts, and if it is a number's text, the digits are `AreSigned`.
pub record HasParts (text : List ℕ) (below : Bool) (w f : List ℕ) : Type 0 where
  pub shown : digits_text below w f ≡ text
  pub only : (n : Number) → number_text n ≡ text → AreSigned below w f

-- The last digit after the dot, if there is one, is not 0.
abbrev pub EndsPlain : List ℕ → Type 0
EndsPlain f = 0 < length f → slice_index f (length f - 1) ≢ 48

-- The result is the decimal that the sign and the digits denote, or the reason why there is none.
abbrev pub ReadsDigits : Bool → List ℕ → List ℕ → Result Number ParseDecimalError → Type 0
ReadsDigits below w f (Ok n) = AreSigned below w f × IsDecimal n × (n ≡ digits_number below w f)
ReadsDigits below w f (Err NotANumber) = AreSigned below w f → ⊥
ReadsDigits below w f (Err TooManyPlaces) = AreSigned below w f × (30 < length f)
ReadsDigits below w f (Err TooLarge) = AreSigned below w f × (length f ≤ 30) × (FitsSigned w128 (signed_integer below (joined_digits w f)) → ⊥)
