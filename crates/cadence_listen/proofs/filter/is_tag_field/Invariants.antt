use Rattle.std.proofs.Common.{length}
use Rattle.std.specs.Option.{option_copied}
use Rattle.cadence_read.specs.LineTexts.{pieces_left}
use Rattle.cadence_listen.specs.Filters.{IsLike, IsTagField}
use Rattle.cadence_listen.proofs.Filtered.{Tracks}
use Rattle.cadence_listen.proofs.filter.is_tag_field.Given as goal

abbrev pub decreases-loop-left : goal.decreases-loop-left
decreases-loop-left l = length (pieces_left 44 (option_copied l.left))

abbrev pub invariant-loop-left : goal.invariant-loop-left
invariant-loop-left l = Tracks (IsTagField l.fn.pattern l.fn.field) (IsLike l.fn.pattern) (pieces_left 44 (option_copied l.left))
