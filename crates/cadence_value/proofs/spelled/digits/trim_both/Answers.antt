use Rattle.cadence_value.proofs.spelling.Trimming.{both_trimmed}
use Rattle.std.proofs.Common.{arith}
use Rattle.cadence_value.proofs.spelled.digits.trim_both.Goals as goal

pub returns : goal.returns
returns c =
    both_trimmed c.args.whole.now c.args.fraction.now c.trim_end_zeros-digits.result.now c.trim_end_zeros-places.result.now
    (grind arith) c.trim_end_zeros-digits.ensures.zeros c.trim_end_zeros-places.ensures.zeros c.trim_end_zeros-digits.ensures.plain
