use Rattle.std.proofs.Common.{◌≤◌, ◌<◌, ◌-◌, arith}
use Rattle.cadence_float.proofs.FittingDigits.{power_fits, three_or_more}
use Rattle.cadence_float.proofs.millis.rounded.Goals as goal

pub nearest-size-requires-clause-some : goal.nearest-size-requires-clause-some
nearest-size-requires-clause-some c =
    let more : 0 < c.places-2.result - 6 = omega (arith, c.places.ensures.value, c.places-2.ensures.value, c.if-places-le-MOST_PLACES.false) in
    omega (arith, c.power_of_ten-unit.ensures.value, three_or_more (c.places-2.result - 6) more)

pub nearest-size-requires-clause-fits : goal.nearest-size-requires-clause-fits
nearest-size-requires-clause-fits c =
    let few : c.places-2.result - 6 ≤ 24 = omega (arith, c.places-2.ensures.most) in
    omega (arith, c.unsigned_abs.ensures.bound, c.power_of_ten-unit.ensures.value, power_fits (c.places-2.result - 6) 24 few)
