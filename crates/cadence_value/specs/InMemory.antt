-- For proofs: texts and lists of numbers that could be in memory, and so are shorter than memory allows. Clauses named
-- `sized` state it of arguments, so that a line's length can be counted.
use Rattle.std.specs.Prelude.{ℕ, ◌<◌, ◌^◌, List, All, length}
use Rattle.std.specs.Str.{IsUtf8}
use Rattle.cadence_value.specs.Number.{Number, IsDecimal}

-- the number of bytes that no text in memory reaches, because Rust allows `isize::MAX` bytes at most
abbrev pub memory_limit : ℕ
memory_limit = 2 ^ 63

-- The text is in UTF-8 and could be a `&str`: it is shorter than the limit of memory.
abbrev pub IsTextInMemory : List ℕ → Type 0
IsTextInMemory text = (length text < memory_limit) × IsUtf8 text

-- The numbers could be those of a `MetricValue`: each could be a `Decimal`, and a list in memory has fewer than 2 ^ 64
-- elements.
pub record AreNumbersInMemory (numbers : List Number) : Type 0 where
  pub each : All IsDecimal numbers
  pub few : length numbers < 2 ^ 64
