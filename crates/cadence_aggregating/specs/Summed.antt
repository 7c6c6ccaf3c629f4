-- What contracts see of lines that are added up and wait.
use Rattle.std.specs.Prelude.{ℕ, List, map}
use Rattle.cadence_stage.specs.OwnLog.{items_of}
use Rattle.cadence_aggregate.specs.Server.{Sample}
use Rattle.cadence_aggregate.specs.declared.aggregator.Aggregator.{Aggregator}
use Rattle.cadence_aggregating.specs.Notes.{line_of_note}
use Rattle.cadence_aggregating.specs.Quiet.{IsQuiet}
use Rattle.cadence_aggregating.specs.Sums.{accepted_by, held_by}
use Rattle.cadence_aggregating.specs.Waiting.{notes_of}
use Rattle.cadence_aggregating.specs.declared.limits.Limits.{Limits}
use Rattle.cadence_aggregating.specs.declared.summed.SummedLines.{SummedLines}

-- the lines that were accepted, in order
abbrev pub accepted_in : SummedLines → List (List ℕ)
accepted_in s = accepted_by s.sums

-- the lines that are gone, because their owner sent and dropped them, in order
abbrev pub gone_in : SummedLines → List (List ℕ)
gone_in s = map line_of_note (items_of s.waiting.gone)

-- the lines that wait to be sent, in order
abbrev pub waiting_in : SummedLines → List (List ℕ)
waiting_in s = map line_of_note (notes_of s.waiting)

-- what the lines of the next flush say
abbrev pub held_in : SummedLines → List Sample
held_in s = held_by s.sums

-- what may be held, and how long a line may be
abbrev pub limits_in : SummedLines → Limits
limits_in s = s.sums.limits

-- what holds what lines say
abbrev pub aggregator_in : SummedLines → Aggregator
aggregator_in s = s.sums.aggregator

-- The line says something, and if these sums are to hold that, and can, then nothing changed below when it was added.
abbrev pub AddsQuietly : {X : Type 0} → SummedLines → List ℕ → X → X → Type 0
AddsQuietly s line before after = ∥ IsQuiet (limits_in s) (aggregator_in s) line before after ∥₁
