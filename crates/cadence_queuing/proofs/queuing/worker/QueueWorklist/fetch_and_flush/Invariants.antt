use Rattle.std.proofs.Common.{◌≡◌}
use Rattle.cadence_queue.specs.Taker.{given_by, has_ended}
use Rattle.cadence_queuing.proofs.queuing.worker.QueueWorklist.fetch_and_flush.Given as goal

abbrev pub invariant-loop : goal.invariant-loop
invariant-loop g l =
    (goal.iterator-loop g).can_next l.iterator'
    × (goal.iterator-loop g).is_finite l.iterator'
    × (given_by l.self.taker ≡ given_by l.fn.self.taker)
    × (has_ended l.self.taker ≡ has_ended l.fn.self.taker)
    × (l.self.handed ≡ l.fn.self.handed)
