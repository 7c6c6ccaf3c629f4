use Rattle.cadence_queue.proofs.QueueEnds.{some_longer}
use Rattle.cadence_queue.proofs.recorded_queue.RecordedQueue+T+A+Named+J.has_ended.Goals as goal

pub returns-clause-end : goal.returns-clause-end
returns-clause-end g c = c.args.self.now.over (some_longer _ _ c.began.ensures.begins c.requires.noted)
