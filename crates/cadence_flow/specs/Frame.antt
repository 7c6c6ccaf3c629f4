-- What a line is in a packet: its frame.
use Rattle.std.specs.Prelude.{◌≡◌, ℕ, ◌+◌, ◌<◌, ◌≤◌, nat_lt, Bool, true, false, if◌then◌else◌, List, [], ◌∷◌, ◌++◌, length, take}
use Rattle.std.specs.List.{flat_map}

-- how many bytes a packet holds at most, and the ending that follows each line in it
pub record Format : Type 0 where
  pub capacity : ℕ
  pub ending : List ℕ

-- the length of a line with its ending
abbrev pub size_of : Format → List ℕ → ℕ
size_of format line = length line + length format.ending

-- whether a line is oversize: with its ending it passes the capacity
abbrev pub is_oversize : Format → List ℕ → Bool
is_oversize format line = nat_lt format.capacity (size_of format line)

-- a line's frame, which is what it is in a packet: an oversize line alone, any other line with its ending
abbrev pub frame : Format → List ℕ → List ℕ
frame format line = if is_oversize format line then line else line ++ format.ending

-- the part of a line's frame that was accepted, if the call returned n: the first n bytes of an oversize line, and the
-- whole frame of any other line
abbrev pub frame_of : Format → List ℕ → ℕ → List ℕ
frame_of format line n = if is_oversize format line then take n line else line ++ format.ending

-- the stream of some lines: their frames, one after the other
abbrev pub stream : Format → List (List ℕ) → List ℕ
stream format lines = flat_map (frame format) lines

-- the stream of some accepted lines, each given with the number of bytes that its call returned
abbrev pub taken_stream : Format → List (List ℕ × ℕ) → List ℕ
taken_stream format kept = flat_map (λ k. frame_of format k.0 k.1) kept

-- the held text as a list of packets: one packet, or none if nothing is held
abbrev pub held_packet : List ℕ → List (List ℕ)
held_packet [] = []
held_packet (byte ∷ rest) = (byte ∷ rest) ∷ []

-- How a line fits with some held text. It fits, or it passes the room and isn't oversize, or it is oversize; exactly
-- one of the three is true of each line.

-- The line fits: with its ending it fits the room that the held text leaves.
abbrev pub Fits : Format → List ℕ → List ℕ → Type 0
Fits format held line = length held + size_of format line ≤ format.capacity

-- The line passes the room: with its ending it is longer than the room that the held text leaves.
abbrev pub PassesRoom : Format → List ℕ → List ℕ → Type 0
PassesRoom format held line = format.capacity < length held + size_of format line

-- The line is oversize.
abbrev pub IsOversize : Format → List ℕ → Type 0
IsOversize format line = is_oversize format line ≡ true

-- The line isn't oversize.
abbrev pub IsNotOversize : Format → List ℕ → Type 0
IsNotOversize format line = is_oversize format line ≡ false
