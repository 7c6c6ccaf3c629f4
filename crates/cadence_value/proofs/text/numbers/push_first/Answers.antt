use Rattle.std.proofs.Common.{arith}
use Rattle.cadence_value.proofs.digits.Digits.{text_digit, text_two}
use Rattle.cadence_value.proofs.text.numbers.push_first.Goals as goal

pub returns-then-number-lt10 : goal.returns-then-number-lt10
returns-then-number-lt10 g c = rw (text_digit c.args.number (omega arith)) c.push_digit.ensures

pub returns : goal.returns
returns g c = rw (text_two c.args.number (omega arith) (omega arith)) c.push_pair.ensures
