use Rattle.std.proofs.Common.{subst, sym, ◌++◌, ◌∙◌}
use Rattle.cadence_stage.specs.OwnLog.{items_of}
use Rattle.cadence_queue.specs.QueuePast.{IsPast}
use Rattle.cadence_queue.specs.QueueTaken.{text_if_taken}
use Rattle.cadence_queue.proofs.QueueEnds.{IsWhole, end_takes, whole_taken}
use Rattle.cadence_queue.proofs.QueuePast.{past_taken}
use Rattle.cadence_queue.proofs.recorded_queue.RecordedQueue.take.Goals as goal

pub invariant_of-self : goal.invariant_of-self
invariant_of-self g c =
    let now = c.args.self.now in
    let took = c.take-answer in
    let new = took.new.self in
    let accepted = items_of now.accepted in
    let names = c.note.ensures.names in
    record {
      past = rw c.note.ensures.noted (subst (λ a. ∥ IsPast accepted (now.taken.items ++ text_if_taken a) new ∥₁)
          c.in-Text.is (past_taken accepted _ _ _ _ took.ensures.past now.past));
      whole = rw c.note.ensures.noted (subst (λ a. IsWhole accepted (now.taken.items ++ text_if_taken a) new)
          c.in-Text.is (whole_taken accepted _ _ _ _ took.ensures.taken now.whole));
      over = λ some. end_takes now.core _ new took.ensures.taken (now.over some);
      unnamed = λ none. names.1 ∙ (now.unnamed none ∙ sym names.0);
      named = λ n is. ((now.named n is).0, names.0 ∙ (now.named n is).1, (now.named n is).2);
    }
