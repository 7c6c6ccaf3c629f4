use Rattle.std.proofs.Common.{◌∙◌, append_assoc, arith}
use Rattle.cadence_value.proofs.digits.Digits.{text_pair}
use Rattle.cadence_value.proofs.text.numbers.push_short.Goals as goal

pub returns : goal.returns
returns g c = λ rest.
    rw (text_pair c.args.number (omega arith), append_assoc)
    (c.push_pair.ensures rest ∙ c.push_first-2.ensures _)
