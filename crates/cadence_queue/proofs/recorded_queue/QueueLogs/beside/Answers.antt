use Rattle.std.proofs.Common.{◌∙◌, sym}
use Rattle.cadence_queue.proofs.QueuePast.{past_none}
use Rattle.cadence_queue.proofs.recorded_queue.QueueLogs.beside.Goals as goal

pub invariant_of-result : goal.invariant_of-result
invariant_of-result g c =
    let none = c.args.self.none in
    record {
      past = rw (none.0, none.1) (past_none _ c.requires.new.0);
      whole = λ keeps. none.0 ∙ sym (rw none.1 c.requires.new.1);
      over = λ some. absurd (some none.2);
      unnamed = c.requires.unnamed;
      named = c.requires.named;
    }
