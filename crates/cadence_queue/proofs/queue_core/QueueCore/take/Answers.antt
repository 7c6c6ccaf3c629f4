use Rattle.std.proofs.Common.{rules}
use Rattle.cadence_queue.proofs.QueueModel.{taken_is_next}
use Rattle.cadence_queue.proofs.queue_core.QueueCore.take.Goals as goal

pub returns-in-Some-clause-past : goal.returns-in-Some-clause-past
returns-in-Some-clause-past g c = taken_is_next _ _ _ (search rules)
