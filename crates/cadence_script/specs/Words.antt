-- How much of a line was not read yet.
use Rattle.std.specs.Prelude.{ℕ, ◌+◌, Option, None, Some, List, length}
use Rattle.std.specs.Borrow.{Bor}
use Rattle.cadence_script.specs.declared.words.Words.{Words}

-- the length of a text and one more, or 0 if there is no text
abbrev pub rest_len : Option (Bor (List ℕ)) → ℕ
rest_len None = 0
rest_len (Some rest) = length rest.now + 1

-- the number of bytes that were not read yet, plus one as long as a word is left: it gets smaller with every word
abbrev pub bytes_left : Words → ℕ
bytes_left w = rest_len w.rest
