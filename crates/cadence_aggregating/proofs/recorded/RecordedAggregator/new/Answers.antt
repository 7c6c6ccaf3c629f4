use Rattle.std.proofs.Common.{map}
use Rattle.cadence_stage.specs.OwnLog.{items_of}
use Rattle.cadence_aggregating.specs.Notes.{sample_of_note}
use Rattle.cadence_aggregating.specs.Sums.{HasSummary}
use Rattle.cadence_aggregating.proofs.recorded.RecordedAggregator.new.Goals as goal

pub invariant_of-result : goal.invariant_of-result
invariant_of-result g c =
    let past : HasSummary c.in_ok-sums.sums (map sample_of_note (items_of c.new-2.result.notes)) = rw c.new-2.ensures.none c.in_ok-sums.ensures.summary in
    record { past = past }
