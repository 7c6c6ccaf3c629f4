use Rattle.std.proofs.Common.{arith}
use Rattle.cadence_float.proofs.FittingDigits.{nearest_units, nothing_left, power_fits, three_or_more}
use Rattle.cadence_float.proofs.parts.rounded_digits.Goals as goal

pub returns-then-zeros-gt30-clause-nearest : goal.returns-then-zeros-gt30-clause-nearest
returns-then-zeros-gt30-clause-nearest c = nothing_left c.args.digits c.args.zeros c.requires.digits (omega (arith, c.if-zeros-gt30.true))

pub nearest-requires-clause-some : goal.nearest-requires-clause-some
nearest-requires-clause-some c = omega (arith, c.power_of_ten.ensures.value, three_or_more c.args.zeros c.requires.some)

pub nearest-requires-clause-fits : goal.nearest-requires-clause-fits
nearest-requires-clause-fits c = omega (arith, c.requires.digits, c.power_of_ten.ensures.value, power_fits c.args.zeros 30 (omega (arith, c.if-zeros-gt30.false)))

pub returns-clause-nearest : goal.returns-clause-nearest
returns-clause-nearest c = nearest_units c.args.digits c.args.zeros c.power_of_ten.result c.nearest.result c.power_of_ten.ensures.value c.nearest.ensures.above c.nearest.ensures.below
