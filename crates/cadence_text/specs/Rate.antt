-- The mantissa of a sampling rate, from the two halves in which a draft stores it.
use Rattle.std.specs.Prelude.{ℕ, ℤ, ◌+◌, ◌*◌, ◌^◌}
use Rattle.std.specs.Int.{cast_signed}
use mir.Syntax.{w128}

-- the signed number of 128 bits whose higher 64 bits are `high` and whose lower 64 bits are `low`
abbrev pub joined_halves : ℕ → ℕ → ℤ
joined_halves high low = cast_signed w128 (high * 2 ^ 64 + low)
