use Rattle.std.specs.Option.{ok_or}
use Rattle.std.proofs.Common.{◌++◌}
use Rattle.cadence_aggregate.specs.Aggregate.{held}
use Rattle.cadence_aggregate.proofs.Within.{line_within}
use Rattle.cadence_aggregate.proofs.runs.take_step.Goals as goal

pub returns-in-Add-clause-within : goal.returns-in-Add-clause-within
returns-in-Add-clause-within g c =
    let a = c.args.aggregator.now in
    rw (c.in-Add.is, c.ok_or.ensures.value) (line_within a.most_bytes (g.S.LineSink.sent c.args.sink.now ++ held a) (g.S.LineSink.sent c.add.new.sink ++ held c.add.new.self) c.in-Add.line (ok_or c.add.result c.add.new.fault) c.add.ensures.within)
