use Rattle.std.proofs.Math.Logic.{∥∥₁_map}
use Rattle.cadence_stage.specs.OwnLog.{items_of}
use Rattle.cadence_aggregating.specs.Waiting.{notes_of}
use Rattle.cadence_aggregating.proofs.Records.{quiet_waiting}
use Rattle.cadence_aggregating.proofs.summed.SummedLines.add.Goals as goal

pub returns-in-Some-clause-quiet : goal.returns-in-Some-clause-quiet
returns-in-Some-clause-quiet c =
    let old = c.args.self.now in
    let waiting = c.add.new.sink in
    ∥∥₁_map c.in-Some.ensures.quiet (quiet_waiting old.sums.limits old.sums.aggregator c.args.line.now (items_of old.waiting.gone) (items_of waiting.gone)
    (notes_of old.waiting) (notes_of waiting) c.add.ensures.leads.0)
