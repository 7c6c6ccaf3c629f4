-- What a shared queue has outside its lock.
use Rattle.std.specs.Prelude.{ℕ, Option}
use Rattle.cadence_queue.specs.declared.policy.QueuePolicy.{QueuePolicy}
use Rattle.cadence_queue.specs.declared.shared_queue.SharedQueue.{SharedQueue}

module _ {T A M N : Type 0} {n : _} where
  -- the capacity, or none
  abbrev pub bound_of : SharedQueue T A M N n → Option ℕ
  bound_of q = q.capacity

  -- what the queue does with a text when it is full
  abbrev pub rule_of : SharedQueue T A M N n → QueuePolicy
  rule_of q = q.policy
