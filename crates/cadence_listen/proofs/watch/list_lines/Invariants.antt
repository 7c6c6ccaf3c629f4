use Rattle.std.proofs.Common.{◌≡◌, length, string_bytes, false}
use Rattle.std.specs.Option.{option_copied}
use Rattle.cadence_read.specs.LineTexts.{pieces_left}
use Rattle.cadence_listen.specs.Filters.{pieces}
use Rattle.cadence_listen.proofs.Printed.{GoesOn}
use Rattle.cadence_listen.proofs.watch.list_lines.Given as goal

abbrev pub decreases-loop-left : goal.decreases-loop-left
decreases-loop-left l = length (pieces_left 10 (option_copied l.left))

abbrev pub invariant-loop-left : goal.invariant-loop-left
invariant-loop-left l = l.fn.format.is_json ≡ false
    → GoesOn l.fn.format.filter l.fn.origin (pieces 10 l.fn.lines) (pieces_left 10 (option_copied l.left)) (string_bytes l.text)
