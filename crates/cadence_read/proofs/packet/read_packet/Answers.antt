use Rattle.cadence_read.proofs.PacketRead.{only_list}
use Rattle.cadence_read.proofs.packet.read_packet.Goals as goal

pub returns-clause-only : goal.returns-clause-only
returns-clause-only g c = only_list c.args.packet.now c.read_list.result c.read_list.ensures
