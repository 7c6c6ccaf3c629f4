-- For proofs: what a line is written to, piece by piece, which is a window, a buffer or a counter of bytes. For each, the
-- text that it ends with.
use Rattle.std.specs.Prelude.{ℕ, ◌+◌, ◌-◌, ◌%◌, ◌^◌, nat_lt, if◌then◌else◌, List, [], ◌++◌, length, map, take, drop, replicate, Bool}
use Rattle.cadence_text.specs.Cleaned.{cleaned_byte}
use Rattle.cadence_text.specs.declared.line.line_buf.LengthCounter.{LengthCounter}
use Rattle.cadence_text.specs.declared.line.line_buf.LineBuf.{LineBuf}
use Rattle.cadence_text.specs.declared.line.window.Window.{Window}

-- the bytes that a window has stored
abbrev pub window_text : Window → List ℕ
window_text w = take w.length w.bytes

-- the text that a window ends with if this text still comes: it skips the bytes that it has to skip, and stores the
-- rest as far as there is room
abbrev pub window_ends : Window → List ℕ → List ℕ
window_ends w rest = window_text w ++ take (512 - w.length) (drop w.skip rest)

-- the text if it has at most `end` bytes, and otherwise nothing
abbrev pub text_up_to : ℕ → List ℕ → List ℕ
text_up_to end text = if nat_lt end (length text) then [] else text

-- the text that a line buffer ends with if this text still comes: all of it if it fits the reserved room, and otherwise
-- nothing
abbrev pub line_buf_ends : {Z : Type 0} → LineBuf Z → List ℕ → List ℕ
line_buf_ends f rest = text_up_to f.end (f.bytes.items ++ rest)

-- a text as long as a counter's count if this text still comes. A counter stores no text, so it counts modulo 2 ^ 128
-- and shows zeros.
abbrev pub counter_ends : LengthCounter → List ℕ → List ℕ
counter_ends c rest = replicate ((c.length + length rest) % 2 ^ 128) 0

-- the text after its part from `start` is rotated: the first `count` bytes of that part move to the end
abbrev pub rotated_text : ℕ → ℕ → List ℕ → List ℕ
rotated_text start count items = take start items ++ (drop count (drop start items) ++ take count (drop start items))

-- the text with an underscore in place of each separator after the first `start` bytes
abbrev pub cleaned_after : ℕ → Bool → List ℕ → List ℕ
cleaned_after start after_key items = take start items ++ map (cleaned_byte after_key) (drop start items)
