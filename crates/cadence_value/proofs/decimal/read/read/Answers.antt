use Rattle.std.proofs.Common.{◌-◌, length}
use Rattle.cadence_value.specs.Number.{number}
use Rattle.cadence_value.proofs.reading.SignedDigits.{reads_text}
use Rattle.cadence_value.proofs.decimal.read.read.Goals as goal

pub returns-in_default : goal.returns-in_default
returns-in_default c = λ n said. c.in_default.ensures.none (number said.mantissa said.places) said.shown

pub returns : goal.returns
returns c =
    let p = c.in-Some in
    let f = p.fraction.now in
    let g = c.trim_end_zeros.result.now in
    reads_text p.is_below p.whole.now f g c.args.text.now (length f - length g) c.number_of.result c.trim_end_zeros.ensures.zeros
    c.trim_end_zeros.ensures.plain p.ensures.parts c.number_of.ensures
