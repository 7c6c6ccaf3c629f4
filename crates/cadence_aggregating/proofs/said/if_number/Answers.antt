use Rattle.std.proofs.Common.{rules, refl}
use Rattle.cadence_aggregating.proofs.said.if_number.Goals as goal

pub returns-then-is_number-clause-some : goal.returns-then-is_number-clause-some
returns-then-is_number-clause-some c = (refl, c.if-is_number.ensures.0 (search rules))
