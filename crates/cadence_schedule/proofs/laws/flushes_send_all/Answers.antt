use Rattle.cadence_schedule.proofs.summed.InTurn.{all_are_sent}
use Rattle.cadence_schedule.proofs.laws.flushes_send_all.Goals as goal

pub returns : goal.returns
returns c = all_are_sent
