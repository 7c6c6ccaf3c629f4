use Rattle.std.proofs.Common.{length}
use Rattle.std.specs.Option.{option_copied}
use Rattle.cadence_read.specs.LineTexts.{pieces_left}
use Rattle.cadence_listen.specs.Filters.{pieces}
use Rattle.cadence_listen.proofs.Told.{Knows}
use Rattle.cadence_listen.proofs.faults.tell_faults.Given as goal

abbrev pub decreases-loop-left : goal.decreases-loop-left
decreases-loop-left g l = length (pieces_left 10 (option_copied l.left))

abbrev pub invariant-loop-left : goal.invariant-loop-left
invariant-loop-left g l = Knows (pieces 10 l.fn.lines) (pieces_left 10 (option_copied l.left)) l.is_whole
