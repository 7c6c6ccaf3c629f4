use Rattle.std.proofs.Common.{rules}
use Rattle.cadence_queue.specs.RecordedQueue.{accepted_by}
use Rattle.cadence_queue.proofs.Results.{if_ok_more, on_err_more}
use Rattle.cadence_queue.proofs.shared_queue.SharedQueue.offer.Goals as goal

pub returns-clause-made : goal.returns-clause-made
returns-clause-made g c = if_ok_more c.offer-answer.result (λ a made. (c.spare-spare.result, search (rules, made))) c.offer-answer.ensures.made

pub returns-clause-last : goal.returns-clause-last
returns-clause-last g c = if_ok_more c.offer-answer.result (λ a is. (accepted_by c.deref_mut-2.result.now.queue, search (rules, is))) c.offer-answer.ensures.accepted

pub returns-clause-bounded : goal.returns-clause-bounded
returns-clause-bounded g c = λ bounded may.
    on_err_more c.offer-answer.result (λ made. (c.spare-spare.result, made.0, search (rules, made)))
    (c.offer-answer.ensures.bounded (search (rules, bounded)) (search (rules, may)))
