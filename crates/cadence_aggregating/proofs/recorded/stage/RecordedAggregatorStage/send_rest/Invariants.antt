use Rattle.std.specs.Option.{ok_or}
use Rattle.cadence_aggregating.specs.Shown.{EndsFlush}
use Rattle.cadence_aggregating.specs.declared.recorded.RecordedAggregator.{RecordedAggregator}
use Rattle.cadence_aggregating.proofs.recorded.stage.RecordedAggregatorStage.send_rest.Given as goal

-- The last thing that was done is a flush.
abbrev pub invariant-loop : goal.invariant-loop
invariant-loop g l = (before : RecordedAggregator g.row.S.Denot) × EndsFlush before l.self g.S.MetricSink.may_flush (ok_or l.sent l.fault)
