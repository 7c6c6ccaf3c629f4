-- What contracts say of a queue with a record of its past.
use Rattle.std.specs.Prelude.{List}
use Rattle.cadence_stage.specs.OwnLog.{items_of}
use Rattle.cadence_queue.specs.QueueState.{Queue}
use Rattle.cadence_queue.specs.declared.recorded_queue.RecordedQueue.{RecordedQueue}

module _ {T A N : Type 0} {n : _} where
  -- the queue without its record
  abbrev pub core_of : RecordedQueue T A N n → Queue T
  core_of q = q.core

  -- the texts that the queue accepted, the oldest first
  abbrev pub accepted_by : RecordedQueue T A N n → List T
  accepted_by q = items_of q.accepted

  -- the texts that were taken from the queue, the oldest first
  abbrev pub taken_from : RecordedQueue T A N n → List T
  taken_from q = q.taken.items
