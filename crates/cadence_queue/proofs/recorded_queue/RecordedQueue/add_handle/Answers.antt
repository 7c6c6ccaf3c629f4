use Rattle.std.proofs.Common.{ap}
use Rattle.cadence_queue.proofs.QueuePast.{past_kept}
use Rattle.cadence_queue.proofs.recorded_queue.RecordedQueue.add_handle.Goals as goal

pub invariant_of-self : goal.invariant_of-self
invariant_of-self g c =
    let now = c.args.self.now in
    let is = c.add_handle.ensures in
    record {
      past =
          past_kept _ _ _ _ (ap (λ z. z.waiting) is) (ap (λ z. z.submitted) is) (ap (λ z. z.drained) is) (ap (λ z. z.dropped) is)
          now.past;
      whole = rw is now.whole;
      over = rw is now.over;
      unnamed = now.unnamed;
      named = now.named;
    }
