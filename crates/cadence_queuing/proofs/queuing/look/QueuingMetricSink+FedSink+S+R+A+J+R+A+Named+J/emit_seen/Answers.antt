use Rattle.std.proofs.Common.{rules, refl, ◌∙◌, ◌≡◌, ◌∷◌, [], ◌++◌, List, String}
use Rattle.std.specs.declared.snapshot.Snapshot.{Snapshot}
use Rattle.cadence_queue.specs.Shown.{accepted_after}
use Rattle.cadence_queuing.proofs.Looks.{ok_so}
use Rattle.cadence_queuing.proofs.queuing.look.QueuingMetricSink+FedSink+S+R+A+J+R+A+Named+J.emit_seen.Goals as goal

pub returns-in-Ok : goal.returns-in-Ok
returns-in-Ok g c =
    let step = c.queue_copy-answer.result.1 in
    let last = ok_so (λ (copy : Snapshot (String _)). (earlier : List (String _)) × (accepted_after step ≡ earlier ++ copy.value ∷ []))
    c.queue_copy-answer.result.0 c.in-Ok._copy c.in-Ok.is c.queue_copy-answer.ensures.last in (
      c.into_accepted.ensures.name ∙ c.queue_copy-answer.ensures.named _ refl,
      (last.0, c.in-Ok._copy.value, c.into_accepted.ensures.items ∙ last.1, search rules),
    )
