use Rattle.std.specs.Prelude.{◌≡◌, ◌++◌, length, map, string_bytes}
use Rattle.cadence_aggregating.specs.Notes.{line_of_note}
use Rattle.cadence_aggregating.specs.Waiting.{notes_of}
use Rattle.cadence_aggregating.proofs.waiting.WaitingLines.into_texts.Given as goal

abbrev pub decreases-loop-line : goal.decreases-loop-line
decreases-loop-line l = length l.lines.items

-- the lines that were taken out, and those that still wait, are all lines
abbrev pub invariant-loop-line : goal.invariant-loop-line
invariant-loop-line l = map string_bytes l.texts.items ++ map line_of_note (map (λ line. line.note) l.lines.items) ≡ map line_of_note (notes_of l.fn.self)
