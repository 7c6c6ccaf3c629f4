-- What the receipts of an aggregating sink show of the aggregator under its lock.
use Rattle.std.specs.Prelude.{◌≡◌, ◌⊎◌, ℕ, List, [], ◌∷◌, ◌++◌, map, Result, Err, MatchResult}
use Rattle.cadence_errors.specs.declared.SinkError.{SinkError}
use Rattle.cadence_stage.specs.Call.{Call, Flush, Line}
use Rattle.cadence_stage.specs.Kept.{after_of, before_of}
use Rattle.cadence_stage.specs.declared.kept.Receipt.{Receipt}
use Rattle.cadence_aggregating.specs.Causes.{HasCause}
use Rattle.cadence_aggregating.specs.Printed.{line_saying}
use Rattle.cadence_aggregating.specs.Quiet.{IsQuiet}
use Rattle.cadence_aggregating.specs.Recorded.{lines_accepted, aggregator_of, samples_held, limits_of, refusals_by, sink_of, lines_taken}
use Rattle.cadence_aggregating.specs.declared.recorded.RecordedAggregator.{RecordedAggregator}

module _ {S : Type 0} where
  module _ (old new : RecordedAggregator S) where
    -- The aggregator accepted just this line, and the sink refused none. If the line was to be held, and could be, the sink
    -- took none either.
    pub record AcceptsLine (line : List ℕ) : Type 0 where
      pub accepted : lines_accepted new ≡ lines_accepted old ++ line ∷ []
      pub quiet : ∥ IsQuiet (limits_of old) (aggregator_of old) line (lines_taken old) (lines_taken new) ∥₁
      pub refused : refusals_by new ≡ refusals_by old

    -- The aggregator accepted no line. The sink refused one, with this error, or it refused none and memory ran out.
    pub record AcceptsNone (e : SinkError) : Type 0 where
      pub accepted : lines_accepted new ≡ lines_accepted old
      pub cause : HasCause (refusals_by old) (Err e) (refusals_by new)

    -- The sink took the lines of what was held, in order, and nothing is held any more.
    pub record SendsAll : Type 0 where
      pub accepted : lines_accepted new ≡ lines_accepted old
      pub lines : lines_taken new ≡ lines_taken old ++ map line_saying (samples_held old)
      pub none : samples_held new ≡ []
      pub refused : refusals_by new ≡ refusals_by old

    -- All that was held was sent, and then the sink was flushed with this result. Or there is an error, and it came before
    -- the sink was flushed.
    abbrev pub EndsFlush : (S → Result (Unit {0}) SinkError → Type 0) → Result (Unit {0}) SinkError → Type 0
    EndsFlush may_flush result = (SendsAll × may_flush (sink_of new) result) ⊎ MatchResult result (λ _. ⊥) AcceptsNone

    -- The aggregator accepted just this line, or none with this error.
    abbrev pub AddsLine : List ℕ → Result ℕ SinkError → Type 0
    AddsLine line answer = MatchResult answer (λ _. AcceptsLine line) AcceptsNone

    -- The aggregator was called so.
    abbrev pub IsSumsStep : (S → Result (Unit {0}) SinkError → Type 0) → Call → Type 0
    IsSumsStep may_flush (Line line answer) = AddsLine line answer
    IsSumsStep may_flush (Flush answer) = EndsFlush may_flush answer

  -- The receipt of a line shows two states of an aggregator. Between them it accepted just this line, or accepted none with
  -- this error.
  abbrev pub ShowsAdded : Receipt (RecordedAggregator S) → List ℕ → Result ℕ SinkError → Type 0
  ShowsAdded r line answer = AddsLine (before_of r) (after_of r) line answer
