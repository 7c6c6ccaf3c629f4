use Rattle.std.proofs.Common.{rules}
use Rattle.cadence_cli.proofs.Reading.{read_whole}
use Rattle.cadence_cli.proofs.streams.read_all.Goals as goal

pub returns-in-Ok-eq0-clause-bytes : goal.returns-in-Ok-eq0-clause-bytes
returns-in-Ok-eq0-clause-bytes g c =
    read_whole _ _ _ _ _ c.in-Ok-eq0.field-0 c.in-Ok-eq0.field-0-test (search rules) c.loop.invariant c.in-Ok-eq0.ensures.bytes
