use Rattle.std.proofs.Common.{rules}
use Rattle.cadence_aggregating.proofs.Saying.{no_byte}
use Rattle.cadence_aggregating.proofs.said.is_single_line.Goals as goal

pub returns-in-Some : goal.returns-in-Some
returns-in-Some c = (search rules, λ all. absurd (no_byte 10 c.args.text.now _ _ all c.in-Some.ensures.whole))
