use Rattle.cadence_schedule.proofs.plans.TightPlans.{fewest}
use Rattle.cadence_schedule.proofs.laws.tight_is_fewest.Goals as goal

pub returns : goal.returns
returns c = fewest
