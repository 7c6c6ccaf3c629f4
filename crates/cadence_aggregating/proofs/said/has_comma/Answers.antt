use Rattle.std.proofs.Common.{rules}
use Rattle.cadence_aggregating.proofs.Saying.{no_byte}
use Rattle.cadence_aggregating.proofs.said.has_comma.Goals as goal

pub returns-in-Some : goal.returns-in-Some
returns-in-Some c = (λ t. (_, _, c.in-Some.ensures.whole), search rules)

pub returns-in-None : goal.returns-in-None
returns-in-None c = (search rules, λ (front, rest, its). absurd (no_byte 44 c.args.text.now front rest c.in-None.ensures.none its))
