-- The number that a sign, digits and a power of ten are worth, and the float that a decimal stands for.
use Rattle.std.specs.Prelude.{◌≡◌, ◌≤◌, ◌<◌, ◌+◌, ◌-◌, ◌⊎◌, ℕ, ◌*◌, ◌^◌, Bool, ℤ, pos, neg_ℤ, length, unsigned_abs, if◌then◌else◌, false, IsTrue, IsFalse, Some}
use Rattle.std.specs.Int.{is_negative}
use Rattle.std.specs.Int.RustNames.{FitsSigned}
use Rattle.std.specs.Float.{Float, binary64, float_is_finite, float_with_sign, float_zero}
use lib.Ieee.{eq, lt, of_bits}
use mir.Syntax.{w128}
use Rattle.fast_float.specs.Parse.{parse_float}
use Rattle.fast_float.specs.Text.{Parts, digits_of, nearest, tens_down, tens_up, text_of}
use Rattle.ryu.specs.Plain.{IsLaidOut, IsPlain}
use Rattle.cadence_value.specs.Number.{IsLowestForm, Number, number_text}

-- The integer has this sign and this size, and fits 128 bits.
pub record HasSignAndSize (negative : Bool) (size : ℕ) (z : ℤ) : Type 0 where
  pub sign : is_negative z ≡ negative
  pub size_is : unsigned_abs z ≡ size
  pub fits : FitsSigned w128 z

-- The number is digits * 10 ^ up / 10 ^ down, with this sign.
pub record IsWorthOf (negative : Bool) (digits up down : ℕ) (n : Number) : Type 0 where
  pub sign : is_negative n.mantissa ≡ negative
  pub worth : unsigned_abs n.mantissa * 10 ^ down ≡ digits * 10 ^ up * 10 ^ n.places

-- the integer of this size, below 0 if `negative`
abbrev pub signed_of : Bool → ℕ → ℤ
signed_of negative size = if negative then neg_ℤ (pos size) else pos size

-- Of all multiples of 10 to the power of `zeros`, this many of them are nearest to the digits.
pub record AreNearest (digits zeros size : ℕ) : Type 0 where
  pub above : 2 * (size * 10 ^ zeros) ≤ 2 * digits + 10 ^ zeros
  pub below : 2 * digits ≤ 2 * (size * 10 ^ zeros) + 10 ^ zeros

-- The number is the lowest form of the digits without their last `zeros` ones, rounded, over 10 to the power of places.
abbrev pub IsNearest : Bool → ℕ → ℕ → ℕ → Number → Type 0
IsNearest negative digits zeros places n =
    (size : ℕ) × AreNearest digits zeros size × IsLowestForm (signed_of negative size) places n

-- The number is digits * 10 ^ up / 10 ^ down, with this sign, or this rounded to 30 places if it has more.
abbrev pub IsNumberOfDigits : Bool → ℕ → ℕ → ℕ → Number → Type 0
IsNumberOfDigits negative digits up down n =
    IsWorthOf negative digits up down n ⊎ ((30 < down - up) × IsNearest negative digits (down - up - 30) 30 n)

-- The digits are 0, or digits * 10 ^ up / 10 ^ down is at least 2 ^ 127.
abbrev pub IsUnfit : ℕ → ℕ → ℕ → Type 0
IsUnfit digits up down = (digits ≡ 0) ⊎ (2 ^ 127 * 10 ^ down ≤ digits * 10 ^ up)

-- A numeral of at most 25 bytes, which has an exponent only if more than 16 digits would stand before its point or more
-- than 4 zeros after it. With this sign it is read as the float.
pub record IsTextOf (x : Float) (negative : Bool) (p : Parts) : Type 0 where
  pub plain : IsPlain p
  pub layout : IsLaidOut 16 4 p
  pub short : length (text_of p) ≤ 25
  pub value : nearest binary64 negative p ≡ x

-- the float, or 0 for a zero of either sign
abbrev pub zero_or : Float → Float
zero_or x = if eq x float_zero then float_zero else x

-- The text of the number is read as this float, or as 0 for a zero of either sign.
abbrev pub IsReadAs : Number → Float → Type 0
IsReadAs n x = parse_float binary64 (number_text n) ≡ Some (zero_or x)

-- A numeral of the float has more than 30 decimal places, and the number is that numeral's, rounded to 30 places.
abbrev pub IsCutOf : Number → Float → Type 0
IsCutOf n x = (negative : Bool) × (p : Parts) × IsTextOf x negative p × (30 < tens_down p - tens_up p)
    × IsNearest negative (digits_of p) (tens_down p - tens_up p - 30) 30 n

-- The text of the number is read as this float, or a numeral of the float has more than 30 decimal places, and the number
-- is that numeral's, rounded to 30 places.
abbrev pub StandsForFloat : Number → Float → Type 0
StandsForFloat n x = IsReadAs n x ⊎ IsCutOf n x

-- The float is NaN or infinite, or a numeral of the float is 0 or at least 2 ^ 127.
abbrev pub IsTooLarge : Float → Type 0
IsTooLarge x = IsFalse (float_is_finite x)
    ⊎ ((negative : Bool) × (p : Parts) × IsTextOf x negative p × IsUnfit (digits_of p) (tens_up p) (tens_down p))

-- The number is d if that has at most six places, and otherwise d rounded to six places.
pub record IsRounded (d n : Number) : Type 0 where
  pub few : d.places ≤ 6 → n ≡ d
  pub many : 6 < d.places → IsNearest (is_negative d.mantissa) (unsigned_abs d.mantissa) (d.places - 6) 6 n

-- the float of 10 to the power of -7, by its bits
abbrev pub ten_millionth : Float
ten_millionth = of_bits binary64 4502148214488346440

-- The float is nearer to 0 than 10 to the power of -7.
abbrev pub IsSmall : Float → Type 0
IsSmall x = IsTrue (lt (float_with_sign false x) ten_millionth)
