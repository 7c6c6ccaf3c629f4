use Rattle.cadence_host.proofs.Masks.{ascii_at}
use Rattle.cadence_host.proofs.ascii.is_ascii_at.Goals as goal

pub returns : goal.returns
returns g c = ascii_at c.args.bytes.now c.args.at g.row.N c.requires.room c.requires.lanes.1
