use Rattle.std.proofs.Common.{rules, ◌≡◌, None, subst}
use Rattle.cadence_value.specs.DenotedNumber.{Denotes}
use Rattle.cadence_words.proofs.Durations.{nanos_found, no_unit, parts_once}
use Rattle.cadence_words.proofs.duration.read_nanos.Goals as goal

pub returns-in_err-digits : goal.returns-in_err-digits
returns-in_err-digits c =
    let none : c.from_residual.result ≡ None = search rules in
    rw none (λ nanos h. no_unit h.0.digits h.0.number h.0.unit c.args.word.now c.in_err-digits.ensures.none h.0.says h.0.text)

pub returns-in_err-unit : goal.returns-in_err-unit
returns-in_err-unit c =
    let none : c.from_residual-in_err-unit.result ≡ None = search rules in
    let cut = c.in_ok-digits in
    rw none (λ nanos h. c.in_err-unit.ensures h.0.unit (parts_once h.0.digits h.0.number h.0.unit cut.digits.now cut.unit.now
    c.args.word.now cut.ensures.front cut.ensures.rest cut.ensures.whole h.0.says h.0.text).1)

pub returns-in_err-number : goal.returns-in_err-number
returns-in_err-number c =
    let none : c.from_residual-in_err-number.result ≡ None = search rules in
    let cut = c.in_ok-digits in
    rw none (λ nanos h. c.in_err-number.ensures h.0.number (
      h.0.decimal,
      subst (λ ds. Denotes ds h.0.number)
          (parts_once h.0.digits h.0.number h.0.unit cut.digits.now cut.unit.now c.args.word.now cut.ensures.front cut.ensures.rest
          cut.ensures.whole h.0.says h.0.text).0 h.0.says,
    ))

pub returns : goal.returns
returns c =
    let cut = c.in_ok-digits in
    nanos_found c.args.word.now cut.digits.now cut.unit.now c.in_ok-number.number c.in_ok-unit.unit c.nanos_of.result cut.ensures.front
    cut.ensures.rest cut.ensures.whole
    c.in_ok-number.ensures.0 c.in_ok-number.ensures.1 c.in_ok-unit.ensures c.nanos_of.ensures
