-- The values of a metric's line, whose numbers may have any spelling.
use Rattle.std.specs.Prelude.{ℕ, ◌==◌, List, All}
use Rattle.std.specs.List.{slice_split}
use Rattle.cadence_value.specs.Number.{Number}
use Rattle.cadence_value.specs.SpelledNumber.{SaysDecimal}

-- The text is a number, in any spelling.
abbrev pub IsNumberText : List ℕ → Type 0
IsNumberText text = (n : Number) × SaysDecimal text n

-- The text is numbers, with a colon between each two.
abbrev pub AreNumbers : List ℕ → Type 0
AreNumbers values = All IsNumberText (slice_split (λ byte. byte == 58) values)
