use Rattle.std.proofs.Common.{◌≡◌, ◌++◌, ◌-◌, [], Ok, Some, length, slice_get, take}
use Rattle.cadence_aggregate.specs.declared.runs.Step.TheVariants.{Flush}
use Rattle.cadence_aggregate.specs.Led.{AllLead}
use Rattle.cadence_aggregate.specs.Aggregate.{held, accepted_samples}
use Rattle.cadence_aggregate.specs.Server.{IsSummary}
use Rattle.cadence_aggregate.specs.Within.{StayWithin}
use Rattle.cadence_aggregate.proofs.runs.run.Given as goal

-- what the accepted lines so far say is the same as what was sent and is held, nothing is held after a flush that succeeded,
-- the replies lead from the sink's first state to the one now, and the lines of values stay within the limit
abbrev pub invariant-loop-step : goal.invariant-loop-step
invariant-loop-step g l = record {
  replies : length l.replies.items ≡ l.step-index;
  same : IsSummary (g.S.LineSink.sent l.fn.sink ++ accepted_samples (take l.step-index l.steps) l.replies.items) (g.S.LineSink.sent l.sink ++ held l.aggregator);
  flushed : slice_get l.steps (l.step-index - 1) ≡ Some Flush → slice_get l.replies.items (l.step-index - 1) ≡ Some (Ok tt) → held l.aggregator ≡ [];
  leads : AllLead g.S.LineSink.leads l.fn.sink l.replies.items l.sink;
  limit : l.aggregator.most_bytes ≡ l.fn.most_bytes;
  within : StayWithin l.fn.most_bytes (g.S.LineSink.sent l.fn.sink ++ accepted_samples (take l.step-index l.steps) l.replies.items) (g.S.LineSink.sent l.sink ++ held l.aggregator);
}
