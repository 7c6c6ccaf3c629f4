-- For proofs: what a line is written to, piece by piece: a counter of bytes, and a text with room for the line. For
-- each, the text that it ends with.
use Rattle.std.specs.Prelude.{ℕ, ◌+◌, ◌-◌, ◌^◌, min, List, ◌++◌, length, replicate, string_bytes}
use Rattle.cadence_events.specs.declared.writers.ByteCounter.{ByteCounter}
use Rattle.cadence_events.specs.declared.writers.LineText.{LineText}
use Rattle.cadence_text.specs.PieceWriters.{text_up_to}

-- a text as long as a counter's count if this text still comes. A counter stores no text, so it shows zeros. It stops
-- at the greatest number of 128 bits.
abbrev pub counter_ends : ByteCounter → List ℕ → List ℕ
counter_ends c rest = replicate (min (c.length + length rest) (2 ^ 128 - 1)) 0

-- the text that a line ends with if this text still comes: all of it if it fits the reserved room, and otherwise
-- nothing
abbrev pub line_ends : {Z : Type 0} → LineText Z → List ℕ → List ℕ
line_ends t rest = text_up_to t.end (string_bytes t.text ++ rest)
