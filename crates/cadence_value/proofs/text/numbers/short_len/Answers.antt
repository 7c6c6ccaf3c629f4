use Rattle.std.proofs.Common.{◌/◌, arith}
use Rattle.cadence_value.proofs.digits.Digits.{length_digit, length_pair, length_two}
use Rattle.cadence_value.proofs.text.numbers.short_len.Goals as goal

pub returns-then-number-lt10 : goal.returns-then-number-lt10
returns-then-number-lt10 c = omega (arith, length_digit c.args.number (omega arith))

pub returns-then-number-lt100 : goal.returns-then-number-lt100
returns-then-number-lt100 c = omega (arith, length_two c.args.number (omega arith) (omega arith))

pub returns-then-number-lt1000 : goal.returns-then-number-lt1000
returns-then-number-lt1000 c = omega (arith, length_pair c.args.number (omega arith), length_digit (c.args.number / 100) (omega arith))

pub returns-else-number-lt1000 : goal.returns-else-number-lt1000
returns-else-number-lt1000 c = omega (arith, length_pair c.args.number (omega arith), length_two (c.args.number / 100) (omega arith) (omega arith))
