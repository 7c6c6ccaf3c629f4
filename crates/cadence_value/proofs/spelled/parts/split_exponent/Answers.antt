use Rattle.std.proofs.lemmas.List.Elements.{recursion_from_All}
use Rattle.cadence_value.proofs.spelling.OneReading.{NoMark, exponent_none}
use Rattle.cadence_value.proofs.spelled.parts.split_exponent.Goals as goal

pub returns-in_err-exponent : goal.returns-in_err-exponent
returns-in_err-exponent c =
    rw c.from_residual.ensures (λ r h.
    exponent_none c.args.text.now c.in-Some.field-0.front.now c.in-Some.field-0.rest.now c.in-Some.field-0.mark r.0.now r.1 c.in-Some.ensures.mark
    c.in-Some.ensures.whole (recursion_from_All NoMark c.in-Some.field-0.front.now c.in-Some.ensures.front) (λ x. c.in_err-exponent.ensures x) h.0
    (recursion_from_All NoMark r.0.now h.1))
