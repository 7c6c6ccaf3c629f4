use Rattle.std.proofs.Common.{◌<◌, arith, length, refl}
use Rattle.cadence_value.proofs.reading.SignedDigits.{some_size}
use Rattle.cadence_value.proofs.decimal.read.why_none.Goals as goal

pub returns-then-fraction-from : goal.returns-then-fraction-from
returns-then-fraction-from c = λ below.
    let f = c.args.fraction.now in
    let plain = c.if-not-are_plain.ensures.0 refl in
    let many : 30 < length f = omega (arith, c.from.ensures, c.if-fraction-from.true) in
    (record { plain = plain; nonzero = λ is. some_size c.args.whole.now f plain c.requires.plain (omega arith) }, many)
