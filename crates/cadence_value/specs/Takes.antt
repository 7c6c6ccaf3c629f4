-- What it means that a writer takes a piece of a text. Here a writer is whatever a line is written to, piece by piece.
use Rattle.std.specs.Prelude.{◌≡◌, ℕ, List, ◌++◌}

-- The writer took the text. `ends_as writer rest` is the text that the writer ends with if `rest` still comes. Whatever
-- comes later, the new writer ends as the old one would have ended with the text and then the rest: after `ab` was
-- taken, ends_as new "c" = ends_as old "abc".
abbrev pub Takes : {S : Type 0} → (S → List ℕ → List ℕ) → S → List ℕ → S → Type 0
Takes ends_as old text new = (rest : List ℕ) → ends_as new rest ≡ ends_as old (text ++ rest)
