-- What each call of a queue does.
use Rattle.std.specs.Prelude.{◌≡◌, ℕ, ◌+◌, ◌-◌, ◌%◌, ◌^◌, ◌==◌, ◌||◌, ◌&&◌, not, Bool, true, false, IsTrue, is_none, if◌then◌else◌, nat_le, List, []}
use Rattle.std.specs.Prelude.{◌∷◌, ◌++◌, length, drop, Option, Some, None}
use Rattle.cadence_errors.specs.declared.SinkError.{SinkError}
use Rattle.cadence_errors.specs.declared.SinkError.TheVariants.{ChannelFull, ChannelDisconnected, OutOfMemory}
use Rattle.cadence_queue.specs.QueueState.{Queue}
use Rattle.cadence_queue.specs.declared.policy.QueuePolicy.{QueuePolicy}
use Rattle.cadence_queue.specs.declared.policy.QueuePolicy.TheVariants.{Refuse, DropOldest}
use Rattle.cadence_queue.specs.declared.queue_error.QueueError.{QueueError}
use Rattle.cadence_queue.specs.declared.queue_error.QueueError.TheVariants as Small
use Rattle.cadence_queue.specs.declared.queue_core.Taken.{Taken}
use Rattle.cadence_queue.specs.declared.queue_core.Taken.TheVariants.{Text, Empty, Ended}

module _ {T : Type 0} where
  -- an empty queue with one handle
  abbrev pub new_queue : Option ℕ → QueuePolicy → Queue T
  new_queue capacity policy =
      record { waiting = []; capacity = capacity; policy = policy; stopped = false; handles = 1; submitted = 0; drained = 0; dropped = 0 }

  -- whether the number of texts that wait has reached the capacity; without a capacity it never has
  abbrev pub at_capacity : Option ℕ → List T → Bool
  at_capacity (Some capacity) waiting = nat_le capacity (length waiting)
  at_capacity None waiting = false

  -- whether the queue is full: the number of its texts has reached its capacity
  abbrev pub is_full : Queue T → Bool
  is_full q = at_capacity q.capacity q.waiting

  -- the text that a full queue drops to make room: the oldest one under DropOldest, and none under Refuse. A queue of
  -- capacity 0 has no text to drop.
  abbrev pub drops_for_room : QueuePolicy → List T → Option T
  drops_for_room DropOldest (oldest ∷ waiting) = Some oldest
  drops_for_room DropOldest [] = None
  drops_for_room Refuse waiting = None

  -- whether the queue is full and has no text to drop for another
  abbrev pub lacks_room : Queue T → Bool
  lacks_room q = is_full q && is_none (drops_for_room q.policy q.waiting)

  -- whether the queue accepts a text if memory doesn't run out: it is not stopped, and it has room or makes room
  abbrev pub is_open : Queue T → Bool
  is_open q = not q.stopped && not (lacks_room q)

  -- the queue after it accepted a text, which waits last
  abbrev pub after_accept : Queue T → T → Queue T
  after_accept q text = record q { waiting = q.waiting ++ text ∷ []; submitted = (q.submitted + 1) % 2 ^ 64 }

  -- the queue after it dropped its oldest text
  abbrev pub after_drop : Queue T → Queue T
  after_drop q = record q { waiting = drop 1 q.waiting; dropped = (q.dropped + 1) % 2 ^ 64 }

  -- The queue was not stopped, and the text is the last one that waits in it now. It was not full, or it was full and
  -- dropped its oldest text.
  abbrev pub Accepts : Queue T → T → Option T → Queue T → Type 0
  Accepts q text None r = (q.stopped ≡ false) × (is_full q ≡ false) × (r ≡ after_accept q text)
  Accepts q text (Some oldest) r =
      (q.stopped ≡ false)
      × (is_full q ≡ true)
      × (drops_for_room q.policy q.waiting ≡ Some oldest)
      × (r ≡ after_accept (after_drop q) text)

  -- the error with which a queue refuses a text: it is stopped; or else it is full and has no text to drop; or else
  -- memory ran out
  abbrev pub refusal : Queue T → SinkError
  refusal q = if q.stopped then ChannelDisconnected else if lacks_room q then ChannelFull else OutOfMemory

  -- The error is the one with which this queue refuses a text.
  abbrev pub IsRefusal : Queue T → SinkError → Type 0
  IsRefusal q e = e ≡ refusal q

  -- A take returns the oldest text. If no text waits, it changes nothing and returns `Ended` if the queue is stopped,
  -- and `Empty` if not.
  abbrev pub IsTaken : Queue T → Taken T → Queue T → Type 0
  IsTaken q (Text text) r =
      (q.waiting ≡ text ∷ r.waiting) × (r ≡ record q { waiting = r.waiting; drained = (q.drained + 1) % 2 ^ 64 })
  IsTaken q Empty r = (q.waiting ≡ []) × (q.stopped ≡ false) × (r ≡ q)
  IsTaken q Ended r = (q.waiting ≡ []) × (q.stopped ≡ true) × (r ≡ q)

  -- The queue is at its end: it is stopped, and no text waits.
  abbrev pub IsEnd : Queue T → Type 0
  IsEnd q = (q.stopped ≡ true) × (q.waiting ≡ [])

  -- whether no text waits and more may come
  abbrev pub is_idle : Queue T → Bool
  is_idle q = not q.stopped && (length q.waiting == 0)

  -- the queue after a stop: its stop mark is set
  abbrev pub after_stop : Queue T → Queue T
  after_stop q = record q { stopped = true }

  -- the queue with one handle more; a count that reached 2^64 - 1 stays there
  abbrev pub with_handle : Queue T → Queue T
  with_handle q = record q { handles = if q.handles == 2 ^ 64 - 1 then q.handles else q.handles + 1 }

  -- the queue with one handle less, stopped if that was the last one; a count of 0 or of 2^64 - 1 stays
  abbrev pub without_handle : Queue T → Queue T
  without_handle q =
      if q.handles == 0 || q.handles == 2 ^ 64 - 1
      then q
      else record q { handles = q.handles - 1; stopped = if q.handles == 1 then true else q.stopped }

-- a queue's small error as a SinkError
abbrev pub error_of : QueueError → SinkError
error_of Small.Stopped = ChannelDisconnected
error_of Small.Full = ChannelFull
error_of Small.OutOfMemory = OutOfMemory

-- whether a queue may refuse a text with this error, whatever state it is in
abbrev pub is_queue_refusal : SinkError → Bool
is_queue_refusal ChannelFull = true
is_queue_refusal ChannelDisconnected = true
is_queue_refusal OutOfMemory = true
is_queue_refusal _ = false

-- A queue may refuse a text with this error, whatever state it is in.
abbrev pub IsQueueRefusal : SinkError → Type 0
IsQueueRefusal e = IsTrue (is_queue_refusal e)
