use Rattle.std.proofs.Common.{rules, arith, ◌≡◌, length}
use Rattle.cadence_value.proofs.reading.DigitsRead.{empty_refused, whole_read, zero_refused}
use Rattle.cadence_value.proofs.decimal.read.read_whole.Goals as goal
use Rattle.cadence_value.proofs.decimal.read.read_whole.Goals.{else-text-gt1-via-then-text-gt1+else-text-eq48, else-text-gt1-via-else-text-gt1}

pub returns-then-is_empty : goal.returns-then-is_empty
returns-then-is_empty c =
    let none : length c.args.text.now ≡ 0 = grind arith in
    empty_refused c.args.text.now none

pub returns-then-text-eq48 : goal.returns-then-text-eq48
returns-then-text-eq48 c = zero_refused c.args.text.now (omega arith) (search rules)

pub returns : goal.returns
returns c =
    whole_read c.args.text.now c.read_digits.result (grind arith) (elim c.else-text-gt1.branch [
      | else-text-gt1-via-then-text-gt1+else-text-eq48 w ↦ λ long e. absurd (omega (arith, w))
      | else-text-gt1-via-else-text-gt1
          w ↦ λ long e. absurd (omega (arith, w))
    ]) c.read_digits.ensures
