-- Numbers as tools print them: a sign, digits with a dot among them, and an exponent, as `-.5`, `+1` and `1.5e+06`.
use Rattle.std.specs.Prelude.{◌≡◌, ◌⊎◌, ℕ, suc, ◌+◌, ◌*◌, ◌^◌, ◌<◌, Bool, List, [], ◌∷◌, ◌++◌, length, ℤ, pos, negsuc}
use Rattle.std.specs.Int.{w32}
use Rattle.std.specs.Int.RustNames.{FitsSigned}
use Rattle.std.specs.Str.Parse.{AllDigits, IsNumeral, digits_value, signed_digits_value, starts_with_minus, without_leading_sign}
use Rattle.cadence_value.specs.Digits.{signed_integer}
use Rattle.cadence_value.specs.Number.{IsDecimal, IsLowestForm, Number}

-- The byte is `e` or `E`, which stands before an exponent.
abbrev pub IsMark : ℕ → Type 0
IsMark byte = (byte ≡ 101) ⊎ (byte ≡ 69)

-- The text is digits, perhaps with a plus or a minus before them, and says this exponent, which fits 32 bits.
pub record IsExponent (text : List ℕ) (exponent : ℤ) : Type 0 where
  pub digits : IsNumeral 10 (without_leading_sign text)
  pub fits : FitsSigned w32 exponent
  pub says : exponent ≡ signed_digits_value 10 text

-- The text ends in a mark and an exponent, and the front is the text before the mark.
pub record HasExponent (text front : List ℕ) (exponent : ℤ) : Type 0 where
  pub mark : ℕ
  pub rest : List ℕ
  pub marks : IsMark mark
  pub whole : text ≡ front ++ mark ∷ rest
  pub is : IsExponent rest exponent

-- The text is the front and an exponent, or the front alone, whose exponent is 0.
abbrev pub IsRaised : List ℕ → List ℕ → ℤ → Type 0
IsRaised text front exponent = HasExponent text front exponent ⊎ ((text ≡ front) × (exponent ≡ pos 0))

-- The text is the digits `w` and `f` with a dot between them, or it has no dot and no `f`.
abbrev pub IsDotted : List ℕ → List ℕ → List ℕ → Type 0
IsDotted text w f = (text ≡ w ++ 46 ∷ f) ⊎ ((text ≡ w) × (f ≡ []))

-- how many zeros an exponent adds to a number
abbrev pub raised_by : ℤ → ℕ
raised_by (pos k) = k
raised_by (negsuc k) = 0

-- how many decimal places an exponent adds to a number
abbrev pub lowered_by : ℤ → ℕ
lowered_by (pos k) = 0
lowered_by (negsuc k) = suc k

-- There is a digit in `w` or `f` and nothing but digits, and the number is the digits with a dot between `w` and `f`,
-- times the power of ten that the exponent says.
pub record IsOfDigits (below : Bool) (w f : List ℕ) (exponent : ℤ) (n : Number) : Type 0 where
  pub some : 0 < length (w ++ f)
  pub digits : AllDigits 10 (w ++ f)
  pub is : IsLowestForm (signed_integer below (digits_value 10 (w ++ f) * 10 ^ raised_by exponent)) (length f + lowered_by exponent) n

-- A `Decimal` can be the number, which is that of these digits and this exponent.
abbrev pub IsDecimalOfDigits : Bool → List ℕ → List ℕ → ℤ → Number → Type 0
IsDecimalOfDigits below w f exponent n = IsDecimal n × IsOfDigits below w f exponent n

-- The text, whose sign is this, says the number: digits, perhaps a dot among them, and perhaps an exponent.
pub record SaysUnsigned (below : Bool) (text : List ℕ) (n : Number) : Type 0 where
  pub front : List ℕ
  pub whole : List ℕ
  pub fraction : List ℕ
  pub exponent : ℤ
  pub raised : IsRaised text front exponent
  pub dotted : IsDotted front whole fraction
  pub is : IsOfDigits below whole fraction exponent n

-- The text says the number. A plus or a minus may stand first; a zero with a minus is zero.
abbrev pub SaysNumber : List ℕ → Number → Type 0
SaysNumber text n = SaysUnsigned (starts_with_minus text) (without_leading_sign text) n

-- The text says the number, and a `Decimal` can be this number.
abbrev pub SaysDecimal : List ℕ → Number → Type 0
SaysDecimal text n = IsDecimal n × SaysNumber text n
