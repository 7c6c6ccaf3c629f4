use Rattle.std.proofs.Common.{subst, sym}
use Rattle.cadence_queue.specs.QueuePast.{IsPast}
use Rattle.cadence_queue.proofs.QueueEnds.{end_without_handle, whole_without_handle}
use Rattle.cadence_queue.proofs.QueuePast.{past_without_handle}
use Rattle.cadence_queue.proofs.recorded_queue.RecordedQueue.drop_handle.Goals as goal

pub invariant_of-self : goal.invariant_of-self
invariant_of-self g c =
    let now = c.args.self.now in
    let is = c.drop_handle.ensures in
    record {
      past = rw is (past_without_handle _ _ now.core now.past);
      whole = rw is (whole_without_handle _ now.taken.items now.core now.whole);
      over = λ some. rw is (end_without_handle now.core (now.over some));
      unnamed = now.unnamed;
      named = now.named;
    }
