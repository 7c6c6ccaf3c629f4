use Rattle.cadence_queue.proofs.QueueModel.{accepts_last}
use Rattle.cadence_queue.proofs.queue_core.QueueCore.submit.Goals as goal

pub returns-in-Ok-clause-past : goal.returns-in-Ok-clause-past
returns-in-Ok-clause-past g c = accepts_last _ _ _ _ c.in-Ok.ensures.accepted
