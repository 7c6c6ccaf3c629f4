use Rattle.std.specs.Option.{ok_or}
use Rattle.std.proofs.lemmas.Result.{on_ok_weaker}
use Rattle.std.proofs.Math.Logic.{∥∥₁_map}
use Rattle.cadence_stage.specs.OwnLog.{items_of}
use Rattle.cadence_aggregating.specs.Calls.{line_of_keyed}
use Rattle.cadence_aggregating.proofs.Records.{quiet_lines}
use Rattle.cadence_aggregating.proofs.recorded.RecordedAggregator.call.Goals as goal

pub returns-clause-quiet : goal.returns-clause-quiet
returns-clause-quiet g c =
    let old = c.args.self.now in
    on_ok_weaker (ok_or c.call.result c.call.new.fault) (λ quiet. ∥∥₁_map quiet (quiet_lines old.sums.limits old.sums.aggregator (line_of_keyed c.args.call) (items_of old.printer.notes) (items_of c.call.new.sink.notes))) c.call.ensures.quiet
