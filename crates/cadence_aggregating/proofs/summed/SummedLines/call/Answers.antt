use Rattle.std.proofs.Math.Logic.{∥∥₁_map}
use Rattle.cadence_stage.specs.OwnLog.{items_of}
use Rattle.cadence_aggregating.specs.Calls.{line_of_keyed}
use Rattle.cadence_aggregating.specs.Waiting.{notes_of}
use Rattle.cadence_aggregating.proofs.Records.{quiet_waiting}
use Rattle.cadence_aggregating.proofs.summed.SummedLines.call.Goals as goal

pub returns-in-Some-clause-quiet : goal.returns-in-Some-clause-quiet
returns-in-Some-clause-quiet c =
    let old = c.args.self.now in
    let waiting = c.call.new.sink in
    ∥∥₁_map c.in-Some.ensures.quiet (quiet_waiting old.sums.limits old.sums.aggregator (line_of_keyed c.args.call) (items_of old.waiting.gone) (items_of waiting.gone)
    (notes_of old.waiting) (notes_of waiting) c.call.ensures.leads.0)
