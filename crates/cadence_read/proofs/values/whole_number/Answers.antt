use Rattle.cadence_value.specs.Number.{whole}
use Rattle.cadence_read.proofs.ValuesRead.{whole_is_decimal, whole_none}
use Rattle.cadence_read.proofs.values.whole_number.Goals as goal

pub returns-in-Some-clause-none : goal.returns-in-Some-clause-none
returns-in-Some-clause-none c = whole_none c.args.text.now c.in-Some.number c.whole_of.result c.in-Some.ensures.1 c.whole_of.ensures.none

pub returns-in-None-clause-none : goal.returns-in-None-clause-none
returns-in-None-clause-none c = λ n fits says. c.in-None.ensures (whole n) (whole_is_decimal n fits, says)
