use Rattle.cadence_stage.specs.OwnLog.{items_of}
use Rattle.cadence_aggregating.specs.Sums.{held_by}
use Rattle.cadence_aggregating.specs.Waiting.{notes_of}
use Rattle.cadence_aggregating.proofs.Records.{flushed_waiting}
use Rattle.cadence_aggregating.proofs.summed.SummedLines.flush.Goals as goal

pub returns-in-Some-clause-lines : goal.returns-in-Some-clause-lines
returns-in-Some-clause-lines c =
    let old = c.args.self.now in
    let waiting = c.flush.new.sink in
    flushed_waiting (items_of old.waiting.gone) (items_of waiting.gone) (notes_of old.waiting) (notes_of waiting) (held_by old.sums) (held_by c.flush.new.self)
    c.flush.ensures.leads.0 c.in-Some.ensures.same c.in-Some.ensures.ok
