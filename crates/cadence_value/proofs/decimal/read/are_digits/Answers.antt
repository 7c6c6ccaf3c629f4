use Rattle.std.proofs.Common.{◌≡◌, true, false}
use Rattle.std.proofs.lemmas.Int.Digits.{digits_more}
use Rattle.cadence_value.proofs.reading.DigitsRead.{not_digit}
use Rattle.cadence_value.proofs.decimal.read.are_digits.Goals as goal

pub returns-then-not-is_ascii_digit : goal.returns-then-not-is_ascii_digit
returns-then-not-is_ascii_digit c = (
  λ (is : false ≡ true). absurd cc,
  λ digits. absurd (not_digit c.args.text.now c.loop-byte.byte-index c.loop-byte-test.true c.if-not-is_ascii_digit.ensures.cases digits),
)

pub loop-byte-preserved : goal.loop-byte-preserved
loop-byte-preserved c =
    digits_more 10 c.args.text.now c.loop-byte.byte-index c.loop-byte-test.true c.loop-byte.invariant c.if-not-is_ascii_digit.ensures.bound
