use Rattle.cadence_value.proofs.spelling.Lowest.{said_utf8}
use Rattle.cadence_words.proofs.decimal.read_bytes.Goals as goal

pub returns-in_default : goal.returns-in_default
returns-in_default c n h = c.in_default.ensures.cases.0 (said_utf8 c.args.word.now n h.1)
