-- What contracts see of an aggregator of lines.
use Rattle.std.specs.Prelude.{ℕ, List, length, map}
use Rattle.cadence_stage.specs.OwnLog.{items_of}
use Rattle.cadence_errors.specs.declared.SinkError.{SinkError}
use Rattle.cadence_stage.specs.Call.{Call}
use Rattle.cadence_stage.specs.Past.{taken_in}
use Rattle.cadence_aggregate.specs.Server.{Sample}
use Rattle.cadence_aggregate.specs.declared.aggregator.Aggregator.{Aggregator}
use Rattle.cadence_aggregating.specs.Notes.{line_of_note}
use Rattle.cadence_aggregating.specs.Sums.{accepted_by, held_by}
use Rattle.cadence_aggregating.specs.declared.limits.Limits.{Limits}
use Rattle.cadence_aggregating.specs.declared.recorded.RecordedAggregator.{RecordedAggregator}

-- the lines of these calls that were accepted, in order
abbrev pub lines_in_calls : List Call → List (List ℕ)
lines_in_calls calls = map (λ taken. taken.0) (taken_in calls)

module _ {S : Type 0} where
  -- the lines that were accepted, in order
  abbrev pub lines_accepted : RecordedAggregator S → List (List ℕ)
  lines_accepted a = accepted_by a.sums

  -- the lines that the aggregator accepted, each with its length
  abbrev pub whole_lines : RecordedAggregator S → List (List ℕ × ℕ)
  whole_lines a = map (λ line. (line, length line)) (lines_accepted a)

  -- the lines that the sink took, in order
  abbrev pub lines_taken : RecordedAggregator S → List (List ℕ)
  lines_taken a = map line_of_note (items_of a.printer.notes)

  -- the errors with which the sink refused lines, in order
  abbrev pub refusals_by : RecordedAggregator S → List SinkError
  refusals_by a = items_of a.printer.refusals

  -- what the lines of the next flush say
  abbrev pub samples_held : RecordedAggregator S → List Sample
  samples_held a = held_by a.sums

  -- what may be held, and how long a line may be
  abbrev pub limits_of : RecordedAggregator S → Limits
  limits_of a = a.sums.limits

  -- what holds what lines say
  abbrev pub aggregator_of : RecordedAggregator S → Aggregator
  aggregator_of a = a.sums.aggregator

  -- the wrapped sink
  abbrev pub sink_of : RecordedAggregator S → S
  sink_of a = a.printer.sink
