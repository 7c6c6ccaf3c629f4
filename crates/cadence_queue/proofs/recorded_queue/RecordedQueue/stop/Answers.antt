use Rattle.std.proofs.Common.{ap, refl}
use Rattle.cadence_queue.proofs.QueuePast.{past_kept}
use Rattle.cadence_queue.proofs.recorded_queue.RecordedQueue.stop.Goals as goal

pub invariant_of-self : goal.invariant_of-self
invariant_of-self g c =
    let now = c.args.self.now in
    let is = c.stop.ensures in
    record {
      past =
          past_kept _ _ _ _ (ap (λ z. z.waiting) is) (ap (λ z. z.submitted) is) (ap (λ z. z.drained) is) (ap (λ z. z.dropped) is)
          now.past;
      whole = rw is now.whole;
      over = λ some. rw is (refl, (now.over some).1);
      unnamed = now.unnamed;
      named = now.named;
    }
