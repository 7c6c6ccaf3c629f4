use Rattle.std.proofs.Common.{rules, subst}
use Rattle.cadence_words.specs.Asked.{AllowsNumber}
use Rattle.cadence_value.proofs.spelling.OneReading.{number_once}
use Rattle.cadence_words.proofs.value.read_plain.Goals as goal

pub returns-then-not-allows_number : goal.returns-then-not-allows_number
returns-then-not-allows_number c n h =
    let takes : AllowsNumber c.args.kind c.in_ok-number.number =
    subst (AllowsNumber c.args.kind) (number_once c.args.word.now n c.in_ok-number.number h.says c.in_ok-number.ensures.1) h.takes in
    absurd (search (rules, takes))

pub returns-in_err-number : goal.returns-in_err-number
returns-in_err-number c = rw c.from_residual.ensures (λ n h. c.in_err-number.ensures n (h.decimal, h.says))
