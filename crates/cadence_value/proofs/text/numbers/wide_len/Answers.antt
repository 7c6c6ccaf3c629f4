use Rattle.std.proofs.Common.{arith}
use Rattle.cadence_value.proofs.digits.Digits.{length-decimal_text-le, length_four}
use Rattle.cadence_value.proofs.text.numbers.wide_len.Goals as goal

pub overflow_add-count : goal.overflow_add-count
overflow_add-count c =
    omega (arith, c.loop-left.invariant, length-decimal_text-le 39 c.args.number (omega arith) (omega (arith, c.ranges.number.fits)))

pub loop-left-preserved : goal.loop-left-preserved
loop-left-preserved c = omega (arith, c.loop-left.invariant, length_four c.loop-left.left (omega arith))

pub overflow_add-result : goal.overflow_add-result
overflow_add-result c =
    omega (
      arith,
      c.loop-left.invariant,
      c.number_len.ensures,
      length-decimal_text-le 39 c.args.number (omega arith)
          (omega (arith, c.ranges.number.fits)),
    )
