use Rattle.std.proofs.Common.{rules, String, Option}
use Rattle.std.specs.declared.snapshot.Snapshot.{Snapshot}
use Rattle.cadence_queue.specs.Queue.{Accepts}
use Rattle.cadence_queue.specs.Shown.{after_of, before_of}
use Rattle.cadence_queuing.proofs.Looks.{ok_so}
use Rattle.cadence_queuing.proofs.queuing.sink.QueuingMetricSinkAnsweringSink.emit_line.Goals as goal

pub returns-in-Ok-clause-shows : goal.returns-in-Ok-clause-shows
returns-in-Ok-clause-shows g c =
    let step = c.queue_copy-answer.result.1 in
    let accepts = ok_so (λ (copy : Snapshot (String _)). (dropped : Option (String _)) × Accepts (before_of step) copy.value dropped (after_of step))
    c.queue_copy-answer.result.0 c.in-Ok._copy c.in-Ok.is c.queue_copy-answer.ensures.accepts in
    (c.in-Ok._copy.value, accepts.0, search rules, search (rules, accepts.1))
