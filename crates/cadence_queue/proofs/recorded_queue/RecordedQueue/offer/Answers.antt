use Rattle.std.proofs.Common.{◌∙◌}
use Rattle.cadence_queue.proofs.QueueEnds.{end_refuses, whole_accepted}
use Rattle.cadence_queue.proofs.QueuePast.{newest_is_made, past_accepted}
use Rattle.cadence_queue.proofs.recorded_queue.RecordedQueue.offer.Goals as goal

pub invariant_of-self-2 : goal.invariant_of-self-2
invariant_of-self-2 g c =
    let now = c.args.self.now in
    let noted = c.note_newest in
    let step = (newest_is_made now.core c.offer.new.self c.in_ok-dropped.dropped c.in_ok-dropped.ensures.accepted _ noted.ensures.newest).1 in
    record {
      past = rw noted.ensures.items (past_accepted _ _ now.core _ _ _ step now.past);
      whole = rw noted.ensures.items (whole_accepted _ now.taken.items now.core _ _ _ step now.whole);
      over = λ some. end_refuses now.core _ _ _ (now.over some) step;
      unnamed = now.unnamed;
      named = λ n is. (noted.ensures.name ∙ (now.named n is).0, (now.named n is).1, (now.named n is).2);
    }

pub returns-clause-made : goal.returns-clause-made
returns-clause-made g c =
    (newest_is_made c.args.self.now.core c.offer.new.self c.in_ok-dropped.dropped c.in_ok-dropped.ensures.accepted _ c.note_newest.ensures.newest).0

pub returns-clause-accepts : goal.returns-clause-accepts
returns-clause-accepts g c =
    (newest_is_made c.args.self.now.core c.offer.new.self c.in_ok-dropped.dropped c.in_ok-dropped.ensures.accepted _ c.note_newest.ensures.newest).1
