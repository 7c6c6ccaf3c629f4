-- Texts that denote a number, also with needless zeros at the end of the places: `1.50` denotes 1.5.
use Rattle.std.specs.Prelude.{◌≡◌, ℕ, ◌<◌, ◌≤◌, List, ℤ, Result, Ok, Err}
use Rattle.std.specs.Int.RustNames.{FitsSigned}
use mir.Syntax.{w128}
use Rattle.cadence_value.specs.Number.{Number, number, number_text, IsDecimal, IsLowestForm}
use Rattle.cadence_value.specs.declared.decimal.read.ParseDecimalError.{ParseDecimalError}
use Rattle.cadence_value.specs.declared.decimal.read.ParseDecimalError.TheVariants.{NotANumber, TooManyPlaces, TooLarge}

-- The text denotes the number `n`: it is the text of `mantissa` divided by 10 to the power of `places`, and `n` is the
-- lowest form of that.
pub record Denotes (text : List ℕ) (n : Number) : Type 0 where
  pub mantissa : ℤ
  pub places : ℕ
  pub shown : number_text (number mantissa places) ≡ text
  pub lowest : IsLowestForm mantissa places n

-- The text denotes the number, and a `Decimal` can be this number.
abbrev pub DenotesDecimal : List ℕ → Number → Type 0
DenotesDecimal text n = IsDecimal n × Denotes text n

-- The result is the decimal that the text denotes. Otherwise it is the error that says why: the text denotes no number,
-- or one with more than 30 places, or one with at most 30 places whose mantissa does not fit 128 bits.
abbrev pub ReadsDecimal : List ℕ → Result Number ParseDecimalError → Type 0
ReadsDecimal text (Ok n) = DenotesDecimal text n
ReadsDecimal text (Err NotANumber) = (n : Number) → Denotes text n → ⊥
ReadsDecimal text (Err TooManyPlaces) = (n : Number) × Denotes text n × (30 < n.places)
ReadsDecimal text (Err TooLarge) = (n : Number) × Denotes text n × (n.places ≤ 30) × (FitsSigned w128 n.mantissa → ⊥)
