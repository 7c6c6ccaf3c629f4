-- The result of a take, with its text as bytes.
use Rattle.std.specs.Prelude.{ℕ, List, String, string_bytes}
use Rattle.cadence_queue.specs.declared.queue_core.Taken.{Taken}
use Rattle.cadence_queue.specs.declared.queue_core.Taken.TheVariants.{Text, Empty, Ended}

-- the result of a take, with the bytes of its text in place of the `String`
abbrev pub taken_bytes : {Z : Type 0} → Taken (String Z) → Taken (List ℕ)
taken_bytes (Text text) = Text (string_bytes text)
taken_bytes Empty = Empty
taken_bytes Ended = Ended
