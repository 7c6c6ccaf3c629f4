use Rattle.std.proofs.Common.{◌∙◌, append_assoc, arith}
use Rattle.cadence_value.proofs.digits.Digits.{text_four}
use Rattle.cadence_value.proofs.text.numbers.+push_long.Goals as goal

pub returns : goal.returns
returns g t c = λ rest.
    rw (text_four c.args.number (omega arith), append_assoc)
    (c.push_pair-2.ensures rest ∙ c.push_pair.ensures _ ∙ c.push_long.ensures _)
