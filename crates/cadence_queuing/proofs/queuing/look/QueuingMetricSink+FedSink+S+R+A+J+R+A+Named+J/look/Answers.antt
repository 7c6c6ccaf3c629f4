use Rattle.std.proofs.Common.{List, String, subst}
use mathlib.Core.List.{IsPrefix}
use Rattle.cadence_queue.specs.RecordedQueue.{taken_from}
use Rattle.cadence_queuing.specs.Fed.{calls_of, texts_seen}
use Rattle.cadence_queuing.proofs.Looks.{begins_more}
use Rattle.cadence_stage.specs.Past.{lines_in}
use Rattle.cadence_queuing.proofs.queuing.look.QueuingMetricSink+FedSink+S+R+A+J+R+A+Named+J.look.Goals as goal

pub returns-clause-begins : goal.returns-clause-begins
returns-clause-begins g c =
    let stage = c.look-stage.result.0.value in
    let taken = taken_from c.look_again-queue.result.value in
    let longer = subst (λ (seen : List (String _)). IsPrefix seen taken) c.look-stage.ensures.items c.look_again-queue.ensures.taken in
    rw (c.new.ensures.queue, c.new.ensures.stage) (begins_more (lines_in (calls_of stage)) (texts_seen stage) taken longer stage.begins)
