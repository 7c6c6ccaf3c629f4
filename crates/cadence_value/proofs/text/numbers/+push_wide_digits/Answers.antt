use Rattle.std.proofs.Common.{◌^◌, ◌≤◌, ◌∙◌, append_assoc, arith, rules}
use Rattle.cadence_value.proofs.digits.Digits.{text_pair}
use Rattle.cadence_value.proofs.text.numbers.+push_wide_digits.Goals as goal

pub returns : goal.returns
returns g t c = λ rest.
    let wide : 2 ^ 64 ≤ c.args.number = search rules in
    rw (text_pair c.args.number (omega arith), append_assoc)
    (c.push_pair.ensures rest ∙ c.push_wide_digits.ensures _)
