-- What sinks over a queue may return.
use Rattle.std.specs.Prelude.{◌≡◌, ℕ, false, true, List, length, Option, Result, Ok, Err, MatchResult}
use Rattle.cadence_errors.specs.declared.SinkError.{SinkError}
use Rattle.cadence_queue.specs.Queue.{Accepts, IsQueueRefusal, is_queue_refusal}
use Rattle.cadence_flow.specs.Sums.{zero_sums}
use Rattle.cadence_flow.specs.Writer.{WriterKind}
use Rattle.cadence_queue.specs.Shown.{IsRefused, after_of, before_of}
use Rattle.cadence_queue.specs.declared.queue_error.QueueError.{QueueError}
use Rattle.cadence_queue.specs.declared.under_lock.QueueStep.{QueueStep}

-- The result is the length of the text, or an error of a queue.
abbrev pub IsQueueAnswer : List ℕ → Result ℕ SinkError → Type 0
IsQueueAnswer text answer = MatchResult answer (λ n. n ≡ length text) IsQueueRefusal

-- A flush succeeds, or has an error of a queue.
abbrev pub IsQueueFlush : Result (Unit {0}) SinkError → Type 0
IsQueueFlush answer = MatchResult answer (λ _. Unit {0}) IsQueueRefusal

-- In this step a queue accepted a text with the bytes of the line, and dropped another one for it, or none; or it refused
-- a text, for some reason.
abbrev pub IsCopyQueued : {T A : Type 0} → (T → List ℕ) → QueueStep T A → List ℕ → Result ℕ SinkError → Type 0
IsCopyQueued {T} bytes s line (Ok n) =
    (text : T) × (dropped : Option T) × (bytes text ≡ line) × Accepts (before_of s) text dropped (after_of s)
IsCopyQueued bytes s line (Err e) = (why : QueueError) × IsRefused s why

-- a queue as a writer of packets: it has the errors of a queue, takes each packet whole, and contracts don't see its
-- packets
abbrev pub queue_kind : WriterKind
queue_kind = record { may_give = is_queue_refusal; reports = false; takes_whole = true; start = zero_sums }
