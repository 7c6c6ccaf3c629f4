use Rattle.std.proofs.Math.Logic.{∥∥₁_map}
use Rattle.cadence_stage.specs.OwnLog.{items_of}
use Rattle.cadence_aggregating.specs.Sums.{accepted_by, held_by}
use Rattle.cadence_aggregating.proofs.Origins.{comes_from}
use Rattle.cadence_aggregating.proofs.Records.{past_shows}
use Rattle.cadence_aggregating.proofs.recorded.RecordedAggregator.keeps_the_record.Goals as goal

pub returns-clause-summary : goal.returns-clause-summary
returns-clause-summary g c =
    let a = c.args.self.now in
    past_shows a.sums.limits.most_bytes (accepted_by a.sums) (items_of a.printer.notes) (held_by a.sums) a.past

pub returns-clause-origins : goal.returns-clause-origins
returns-clause-origins g c =
    let a = c.args.self.now in
    ∥∥₁_map a.past (comes_from a.sums.limits.most_bytes (accepted_by a.sums) (items_of a.printer.notes) (held_by a.sums))
