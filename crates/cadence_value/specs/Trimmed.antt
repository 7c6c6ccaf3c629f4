-- Digits without the zeros at their end.
use Rattle.std.specs.Prelude.{◌≡◌, ℕ, List, ◌++◌, replicate}
use Rattle.cadence_value.specs.Digits.{EndsPlain}

-- The digits before and after a dot are these digits and then so many zeros. The digits don't end in a zero.
pub record IsTrimmed (w f digits : List ℕ) (zeros : ℕ) : Type 0 where
  pub same : w ++ f ≡ digits ++ replicate zeros 48
  pub plain : EndsPlain digits
