use Rattle.std.proofs.Common.{◌≡◌, true, false}
use Rattle.cadence_value.proofs.reading.SignedDigits.{printed, printed_plain}
use Rattle.cadence_value.proofs.decimal.read.read_number.Goals as goal

pub returns-then-not-ends_plain : goal.returns-then-not-ends_plain
returns-then-not-ends_plain c = λ n is.
    let p = c.in_ok-is_below in
    let plain = printed_plain c.args.text.now p.is_below p.whole.now p.fraction.now p.ensures.parts n is.0 is.1 in
    let bad : false ≡ true = c.if-not-ends_plain.ensures.1 plain in
    absurd cc

pub returns : goal.returns
returns c =
    let p = c.in_ok-is_below in
    rw c.ok.ensures.value
    (printed c.args.text.now p.is_below p.whole.now p.fraction.now c.number_of.result p.ensures.parts c.number_of.ensures)
