use Rattle.std.proofs.Common.{rules, ap, sym, ◌∷◌, [], ◌++◌, ◌∙◌}
use Rattle.cadence_stage.specs.OwnLog.{items_of}
use Rattle.cadence_queue.proofs.QueueEnds.{end_refuses, whole_accepted}
use Rattle.cadence_queue.proofs.QueuePast.{past_accepted, submitted_newest}
use Rattle.cadence_queue.proofs.recorded_queue.RecordedQueue.add.Goals as goal

pub invariant_of-self : goal.invariant_of-self
invariant_of-self g c =
    let now = c.args.self.now in
    let noted = c.note_newest-newest in
    let found = submitted_newest now.core c.args.text c.add-answer.result _ (search rules) c.add-answer.ensures.accepted
    noted.result.value noted.ensures.newest in
    let dropped = found.1.0 in
    let step = found.1.1 in
    record {
      past = rw noted.ensures.items (past_accepted _ _ now.core _ dropped _ step now.past);
      whole = rw noted.ensures.items (whole_accepted _ now.taken.items now.core _ dropped _ step now.whole);
      over = λ some. end_refuses now.core _ dropped _ (now.over some) step;
      unnamed = now.unnamed;
      named = λ n is. (noted.ensures.name ∙ (now.named n is).0, (now.named n is).1, (now.named n is).2);
    }
