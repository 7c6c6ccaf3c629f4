use Rattle.std.proofs.Common.{List, map, string_bytes, refl, ap, sym, ◌∙◌}
use Rattle.cadence_queue.specs.RecordedQueue.{accepted_by, core_of, taken_from}
use Rattle.cadence_queuing.proofs.Looks.{delivered}
use Rattle.cadence_stage.specs.Past.{lines_in}
use Rattle.cadence_queuing.proofs.queuing.look.QueuingMetricSink+FedSink+S+R+A+J+R+A+Named+J.flush_at_end.Goals as goal

pub flush_by-stage-requires : goal.flush_by-stage-requires
flush_by-stage-requires g c = (c.args.passed.now.handed _ refl).0

pub returns-clause-delivered : goal.returns-clause-delivered
returns-clause-delivered g c =
    let q = c.look_at_end-queue.result.value in
    rw c.new.ensures.queue (delivered (accepted_by q) (taken_from q) (core_of q) c.look_at_end-queue.ensures.end q.past q.whole)

pub returns-clause-given : goal.returns-clause-given
returns-clause-given g c =
    rw (c.new.ensures.queue, c.new.ensures.stage) (ap lines_in c.flush_by-stage.ensures.fed ∙ ((c.args.passed.now.handed _ refl).1
    ∙ ap (map string_bytes) (sym c.look_at_end-queue.ensures.taken)))
