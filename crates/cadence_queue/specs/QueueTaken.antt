-- The texts that were taken from a queue.
use Rattle.std.specs.Prelude.{◌≡◌, ◌+◌, ◌%◌, ◌^◌, List, [], ◌∷◌, ◌++◌, length}
use Rattle.cadence_queue.specs.QueueState.{Queue}
use Rattle.cadence_queue.specs.declared.queue_core.Taken.{Taken}
use Rattle.cadence_queue.specs.declared.queue_core.Taken.TheVariants.{Text}

module _ {T : Type 0} where
  -- the text that a take returned, as a list of one text, or of none
  abbrev pub text_if_taken : Taken T → List T
  text_if_taken (Text text) = text ∷ []
  text_if_taken _ = []

  -- These texts waited first, in this order, and were taken. Beside them only the number of taken texts changed: it grew
  -- by how many they are, modulo 2^64.
  abbrev pub AreTaken : Queue T → List T → Queue T → Type 0
  AreTaken q texts r =
      (q.waiting ≡ texts ++ r.waiting)
      × (r ≡ record q { waiting = r.waiting; drained = (q.drained + length texts) % 2 ^ 64 })
