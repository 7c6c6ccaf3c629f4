use Rattle.std.proofs.Common.{◌≡◌, ℕ, List, ◌++◌, length}
use denote.Text.{Utf8}
use denote.Shadow.{shadow}
use Rattle.cadence_events.specs.Cleaned.{barless}
use Rattle.cadence_events.specs.Escapes.{escaped_message}
use Rattle.cadence_events.proofs.cleaning.push_barless.Given as goal

-- Whatever comes later, the line ends as it would have ended with the whole message.
abbrev pub invariant-loop-front : goal.invariant-loop-front
invariant-loop-front g l = shadow (Utf8 l.left) × ((more : List ℕ) → g.S.ByteWriter.ends_as l.line (escaped_message (barless l.left) ++ more) ≡ g.S.ByteWriter.ends_as l.fn.line (escaped_message (barless l.fn.message) ++ more))

abbrev pub decreases-loop-front : goal.decreases-loop-front
decreases-loop-front g l = length l.left
