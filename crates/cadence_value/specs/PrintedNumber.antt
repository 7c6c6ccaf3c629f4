-- What is read from the text that a number prints.
use Rattle.std.specs.Prelude.{◌≡◌, ◌<◌, ◌^◌, ℕ, List, Option}
use Rattle.cadence_value.specs.Finds.{Finds}
use Rattle.cadence_value.specs.Number.{Number, IsDecimal, decimal_text, number_text}

-- If a number was read, a `Decimal` can be this number, and it has this text. If none was, no such number has this text.
abbrev pub ReadsNumber : List ℕ → Option Number → Type 0
ReadsNumber text result = Finds (λ n. IsDecimal n × (number_text n ≡ text)) result

-- If an unsigned whole number was read, it fits 128 bits and has this text. If none was, no such number has this text.
abbrev pub ReadsNatural : List ℕ → Option ℕ → Type 0
ReadsNatural text result = Finds (λ n. (n < 2 ^ 128) × (decimal_text n ≡ text)) result
