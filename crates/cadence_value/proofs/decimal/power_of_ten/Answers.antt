use Rattle.cadence_value.proofs.digits.PowersOfTen.{ten_to_fits, ten_to_pos}
use Rattle.cadence_value.proofs.decimal.power_of_ten.Goals as goal

pub pow-requires : goal.pow-requires
pow-requires c = rw c.from.ensures (ten_to_fits c.args.places c.requires)

pub returns-clause-positive : goal.returns-clause-positive
returns-clause-positive c = rw c.pow.ensures (ten_to_pos c.from.result)
