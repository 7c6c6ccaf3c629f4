use Rattle.std.specs.Option.{ok_or}
use Rattle.std.proofs.lemmas.Result.{on_ok_weaker}
use Rattle.std.proofs.Math.Logic.{∥∥₁_map}
use Rattle.cadence_stage.specs.OwnLog.{items_of}
use Rattle.cadence_aggregating.proofs.Records.{quiet_lines}
use Rattle.cadence_aggregating.proofs.recorded.RecordedAggregator.add.Goals as goal

pub returns-clause-quiet : goal.returns-clause-quiet
returns-clause-quiet g c =
    let old = c.args.self.now in
    on_ok_weaker (ok_or c.add.result c.add.new.fault) (λ quiet. ∥∥₁_map quiet (quiet_lines old.sums.limits old.sums.aggregator c.args.line.now (items_of old.printer.notes) (items_of c.add.new.sink.notes))) c.add.ensures.quiet
