use Rattle.std.proofs.Common.{◌≡◌, ◌-◌, None, length, rules}
use Rattle.std.specs.Prelude.{slice_get}
use Rattle.cadence_queue.proofs.QueueEnds.{has_last}
use Rattle.cadence_queue.proofs.recorded_queue.note_newest.Goals as goal

pub unreachable-requires : goal.unreachable-requires
unreachable-requires g c =
    let waiting = c.args.core.now.waiting in
    let none : slice_get waiting (length waiting - 1) ≡ None = search rules in
    has_last waiting c.requires none
