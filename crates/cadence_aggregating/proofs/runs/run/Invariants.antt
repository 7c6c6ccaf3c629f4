use Rattle.std.proofs.Common.{◌≡◌, ◌-◌, [], Ok, Some, length, slice_get, take}
use Rattle.cadence_aggregating.specs.declared.runs.Step.TheVariants.{Flush}
use Rattle.cadence_aggregating.specs.Recorded.{lines_accepted, limits_of, samples_held}
use Rattle.cadence_aggregating.specs.Runs.{accepted_lines}
use Rattle.cadence_aggregating.proofs.runs.run.Given as goal

-- the record has the accepted lines so far, nothing is held after a flush that succeeded, and the limits stay the same
abbrev pub invariant-loop-step : goal.invariant-loop-step
invariant-loop-step g l = record {
  replies : length l.replies.items ≡ l.step-index;
  accepted : lines_accepted l.aggregator ≡ accepted_lines (take l.step-index l.steps) l.replies.items;
  flushed : slice_get l.steps (l.step-index - 1) ≡ Some Flush → slice_get l.replies.items (l.step-index - 1) ≡ Some (Ok tt) → samples_held l.aggregator ≡ [];
  limits : limits_of l.aggregator ≡ l.fn.limits;
}
