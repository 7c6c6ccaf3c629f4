use Rattle.std.proofs.Common.{map}
use Rattle.cadence_aggregating.specs.Notes.{sample_of_note}
use Rattle.cadence_aggregating.specs.Sums.{HasSummary}
use Rattle.cadence_aggregating.specs.Waiting.{all_notes_of}
use Rattle.cadence_aggregating.proofs.summed.SummedLines.new.Goals as goal

pub invariant_of-result : goal.invariant_of-result
invariant_of-result c =
    let past : HasSummary c.in_ok-sums.sums (map sample_of_note (all_notes_of c.new-waiting.result)) = rw c.new-waiting.ensures.all c.in_ok-sums.ensures.summary in
    record { past = past }
