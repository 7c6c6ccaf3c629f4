-- Chances, with which calls or lines are chosen at random.
use Rattle.std.specs.Prelude.{◌≡◌, ℕ, ◌*◌, ◌^◌, ◌<◌, ◌≤◌, false, unsigned_abs}
use Rattle.std.specs.Int.{is_negative}
use Rattle.cadence_value.specs.Number.{Number}

-- The number is a chance: it is above 0 and at most 1, and has at most 18 decimal places.
pub record IsChance (n : Number) : Type 0 where
  pub places : n.places ≤ 18
  pub sign : is_negative n.mantissa ≡ false
  pub some : 0 < unsigned_abs n.mantissa
  pub most : unsigned_abs n.mantissa ≤ 10 ^ n.places

-- A number of 64 bits, divided by 2^64, is below the chance: a call or a line for which it was drawn is chosen.
abbrev pub IsBelow : ℕ → Number → Type 0
IsBelow draw chance = draw * 10 ^ chance.places < unsigned_abs chance.mantissa * 2 ^ 64
