use Rattle.std.proofs.Common.{rules, refl}
use Rattle.cadence_aggregating.proofs.said.if_numbers.Goals as goal

pub returns-then-are_numbers-clause-some : goal.returns-then-are_numbers-clause-some
returns-then-are_numbers-clause-some c = (refl, c.if-are_numbers.ensures.0 (search rules))
