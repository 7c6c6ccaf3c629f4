use Rattle.std.proofs.Common.{◌≡◌, ◌+◌, length}
use Rattle.cadence_value.specs.Number.{decimal_text}
use Rattle.cadence_value.proofs.text.numbers.number_len.Given as goal

abbrev pub invariant-loop-left : goal.invariant-loop-left
invariant-loop-left l = l.count + length (decimal_text l.left) ≡ length (decimal_text l.number)

abbrev pub decreases-loop-left : goal.decreases-loop-left
decreases-loop-left l = l.left
