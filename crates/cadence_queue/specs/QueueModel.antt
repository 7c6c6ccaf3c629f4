-- The past of a queue: all texts that it ever accepted and, for each text that has left the queue, how it left.
use Rattle.std.specs.Prelude.{◌≡◌, ◌%◌, ◌^◌, ◌≤◌, Bool, true, false, List, [], ◌∷◌, ◌++◌, length, drop, slice_get, count_by, Option, Some, None}
use Rattle.cadence_queue.specs.QueueState.{Queue}
use Rattle.cadence_queue.specs.declared.queue_core.Taken.{Taken}
use Rattle.cadence_queue.specs.declared.queue_core.Taken.TheVariants.{Text}

-- how a text left a queue: it was taken, or it was dropped
pub data Exit : Type 0 where
  by_take : Exit
  by_drop : Exit

-- whether a text left because it was taken
abbrev pub is_take : Exit → Bool
is_take by_take = true
is_take by_drop = false

-- whether a text left because it was dropped
abbrev pub is_drop : Exit → Bool
is_drop by_take = false
is_drop by_drop = true

-- The queue has this past. The texts that left are the first accepted ones, and the others wait, in order. The three
-- counts are the numbers of texts accepted, taken and dropped, modulo 2^64.
pub record IsQueueOf {T : Type 0} (accepted : List T) (exits : List Exit) (q : Queue T) : Type 0 where
  pub waits : q.waiting ≡ drop (length exits) accepted
  pub front : length exits ≤ length accepted
  pub submitted : q.submitted ≡ length accepted % 2 ^ 64
  pub drained : q.drained ≡ count_by is_take exits % 2 ^ 64
  pub dropped : q.dropped ≡ count_by is_drop exits % 2 ^ 64

module _ {T : Type 0} where
  -- Whatever the past of the queue, the text is now the last one that it accepted. If a text was dropped for it, that
  -- was the oldest one that waited.
  abbrev pub IsAccepted : Queue T → T → Option T → Queue T → Type 0
  IsAccepted q text None r =
      (accepted : List T) (exits : List Exit)
      → IsQueueOf accepted exits q
      → IsQueueOf (accepted ++ text ∷ []) exits r
  IsAccepted q text (Some oldest) r =
      (accepted : List T) (exits : List Exit)
      → IsQueueOf accepted exits q
      → (slice_get accepted (length exits) ≡ Some oldest)
      × IsQueueOf (accepted ++ text ∷ []) (exits ++ by_drop ∷ []) r

  -- Whatever the past of the queue, the text that a take returns was the oldest one that waited, and is now taken. If
  -- the take returns no text, all accepted texts had left, and the past stays as it was.
  abbrev pub IsNext : Queue T → Taken T → Queue T → Type 0
  IsNext q (Text text) r =
      (accepted : List T) (exits : List Exit)
      → IsQueueOf accepted exits q
      → (slice_get accepted (length exits) ≡ Some text) × IsQueueOf accepted (exits ++ by_take ∷ []) r
  IsNext q _ r =
      (accepted : List T) (exits : List Exit)
      → IsQueueOf accepted exits q
      → (length exits ≡ length accepted) × IsQueueOf accepted exits r
