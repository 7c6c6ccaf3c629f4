-- For proofs: what a number's text is written to when it is printed.
use Rattle.std.specs.Prelude.{ℕ, ◌+◌, ◌||◌, nat_lt, if◌then◌else◌, List, [], ◌++◌, length, take}
use Rattle.cadence_value.specs.declared.text.display.NumberBuf.{NumberBuf}

-- the text that the buffer ends with if this text still comes: all of it if it fits, and otherwise nothing
abbrev pub number_buf_ends : NumberBuf → List ℕ → List ℕ
number_buf_ends b rest = if b.is_over || nat_lt 71 (b.len + length rest) then [] else take b.len b.bytes ++ rest
