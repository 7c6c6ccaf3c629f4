use Rattle.std.proofs.Common.{sym}
use Rattle.cadence_environment.proofs.Groups.{container_utf8}
use Rattle.cadence_environment.proofs.container.container_id.Goals as goal

pub from_utf8_unchecked-requires : goal.from_utf8_unchecked-requires
from_utf8_unchecked-requires c = container_utf8 c.args.cgroup.now c.in_ok-id.id.now (sym c.in_ok-id.ensures)
