use Rattle.std.specs.Option.{ok_or}
use Rattle.std.proofs.lemmas.Result.{on_ok_weaker}
use Rattle.cadence_stage.specs.OwnLog.{items_of}
use Rattle.cadence_aggregating.specs.Sums.{held_by}
use Rattle.cadence_aggregating.proofs.Records.{flushed_lines}
use Rattle.cadence_aggregating.proofs.recorded.RecordedAggregator.flush.Goals as goal

pub returns-clause-lines : goal.returns-clause-lines
returns-clause-lines g c =
    let old = c.args.self.now in
    on_ok_weaker (ok_or c.flush.result c.flush.new.fault) (λ none. flushed_lines (items_of old.printer.notes) (items_of c.flush.new.sink.notes) (held_by old.sums) (held_by c.flush.new.self)
    c.flush.ensures.same none) c.flush.ensures.ok
