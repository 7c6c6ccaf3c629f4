use Rattle.cadence_value.proofs.spelling.Lowest.{none_said}
use Rattle.cadence_words.proofs.decimal.read_decimal.Goals as goal

pub returns-in_default : goal.returns-in_default
returns-in_default c = none_said c.args.word.now c.in_default.field-0 c.in_default.ensures.value
