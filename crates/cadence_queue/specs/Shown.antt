-- What contracts see of a step that a call of a shared queue shows.
use Rattle.std.specs.Prelude.{◌≡◌, ◌<◌, false, ℕ, Option, Some, None, List, [], length}
use Rattle.cadence_queue.specs.Queue.{IsRefusal, error_of, is_idle}
use Rattle.cadence_queue.specs.QueueState.{Queue}
use Rattle.cadence_queue.specs.RecordedQueue.{core_of}
use Rattle.cadence_queue.specs.declared.queue_error.QueueError.{QueueError}
use Rattle.cadence_queue.specs.declared.under_lock.QueueStep.{QueueStep}
use Rattle.cadence_queue.specs.declared.under_lock.UnderLock.{UnderLock}

module _ {T A : Type 0} where
  -- the queue before the step, and after it
  abbrev pub before_of : QueueStep T A → Queue T
  before_of s = s.before.value

  abbrev pub after_of : QueueStep T A → Queue T
  after_of s = s.after.value

  -- what the queue had accepted by the end of the step, and the name of that log
  abbrev pub accepted_after : QueueStep T A → List T
  accepted_after s = s.accepted.items

  abbrev pub log_after : QueueStep T A → ℕ
  log_after s = s.accepted.name

  -- The queue refused a text for this reason, and stayed as it was.
  abbrev pub IsRefused : QueueStep T A → QueueError → Type 0
  IsRefused s e = IsRefusal (before_of s) (error_of e) × (after_of s ≡ before_of s)

-- These are the texts that were moved out of a queue which has a text or is stopped: at least one, or none if the queue
-- was found at its end.
abbrev pub AreMoved : {T E : Type 0} → Option E → List T → Type 0
AreMoved None texts = 0 < length texts
AreMoved (Some end) texts = texts ≡ []

-- The queue under the lock has a text or is stopped.
abbrev pub IsReady : {T A M N : Type 0} {n : _} → UnderLock T A M N n → Type 0
IsReady state = is_idle (core_of state.queue) ≡ false
