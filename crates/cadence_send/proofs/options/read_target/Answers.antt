use Rattle.std.proofs.Common.{rules}
use Rattle.cadence_send.proofs.Targets.{target_found}
use Rattle.cadence_send.proofs.options.read_target.Goals as goal

pub returns-then-is_some-clause-target : goal.returns-then-is_some-clause-target
returns-then-is_some-clause-target c =
    target_found c.args.value.now c.in-Some.host.now c.in-Some.port.now c.read_port.result c.in-Some.ensures.cases (search rules)
    c.read_port.ensures (search rules)
