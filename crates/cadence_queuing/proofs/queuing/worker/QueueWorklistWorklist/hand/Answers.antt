use Rattle.std.proofs.Common.{refl}
use Rattle.cadence_stage.specs.OwnLog.{items_of}
use Rattle.cadence_queuing.proofs.Looks.{next_begins}
use Rattle.cadence_queuing.proofs.queuing.worker.QueueWorklistWorklist.hand.Goals as goal

pub hand-answer-requires : goal.hand-answer-requires
hand-answer-requires g c =
    let now = c.args.self.now in
    record {
      next = λ names is.
          let seen = c.seen-from.ensures.seen names is in
          let given = now.given names is in (
            given.0,
            seen.0,
            rw (given.1, seen.1) (∣ next_begins (items_of now.handed) _ now.taker.texts.items _ c.args.text (c.requires refl) now.taker.whole ∣₁),
          );
    }
