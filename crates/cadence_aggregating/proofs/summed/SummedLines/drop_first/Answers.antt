use Rattle.std.proofs.Common.{map}
use Rattle.cadence_aggregating.specs.Notes.{sample_of_note}
use Rattle.cadence_aggregating.specs.Sums.{HasSummary}
use Rattle.cadence_aggregating.specs.Waiting.{all_notes_of}
use Rattle.cadence_aggregating.proofs.summed.SummedLines.drop_first.Goals as goal

pub invariant_of-self : goal.invariant_of-self
invariant_of-self c =
    let old = c.args.self.now in
    let past : HasSummary old.sums (map sample_of_note (all_notes_of c.drop_first.new.self)) = rw c.drop_first.ensures.all old.past in
    record { past = past }
