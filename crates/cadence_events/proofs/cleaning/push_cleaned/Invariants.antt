use Rattle.std.proofs.Common.{◌≡◌, ℕ, List, ◌++◌, length}
use denote.Text.{Utf8}
use denote.Shadow.{shadow}
use Rattle.cadence_text.specs.Cleaned.{cleaned_text}
use Rattle.cadence_events.proofs.cleaning.push_cleaned.Given as goal

-- Whatever comes later, the line ends as it would have ended with the whole text.
abbrev pub invariant-loop-front : goal.invariant-loop-front
invariant-loop-front g l = shadow (Utf8 l.left) × ((more : List ℕ) → g.S.ByteWriter.ends_as l.line (cleaned_text l.fn.after_key l.left ++ more) ≡ g.S.ByteWriter.ends_as l.fn.line (cleaned_text l.fn.after_key l.fn.text ++ more))

abbrev pub decreases-loop-front : goal.decreases-loop-front
decreases-loop-front g l = length l.left
