-- How the numbers of lines in packets change when one line more is counted.
use Rattle.std.specs.Prelude.{◌≡◌, ◌≢◌, ℕ, ◌+◌, ◌^◌, ◌<◌, nat_le, List, [], ◌∷◌, ◌++◌, Ok, Err, Result, Bool, true, false, length}
use Rattle.cadence_errors.specs.declared.SinkError.{SinkError}
use Rattle.cadence_flow.specs.Frame.{Format, size_of}

-- whether the packer holds text that has room for the line and its ending
abbrev pub joins_held : Format → List ℕ → List ℕ → Bool
joins_held format [] line = false
joins_held format (byte ∷ rest) line = nat_le (length (byte ∷ rest) + size_of format line) format.capacity

-- The cut has a last packet, whose number of lines can grow by one within 64 bits.
abbrev pub HasLast : List ℕ → Type 0
HasLast cut = (front : List ℕ) × (count : ℕ) × (cut ≡ front ++ count ∷ []) × (count + 1 < 2 ^ 64)

-- The new cut counts one line more: in the last packet if the line joins it, and otherwise in a packet of its own.
abbrev pub Counted : Bool → List ℕ → List ℕ → Type 0
Counted true old new = (front : List ℕ) × (count : ℕ) × (old ≡ front ++ count ∷ []) × (new ≡ front ++ (count + 1) ∷ [])
Counted false old new = new ≡ old ++ 1 ∷ []

-- The new cut counts a line that was kept, and is the old one after a line that was refused.
abbrev pub CountsLine : Format → List ℕ → List ℕ → Result ℕ SinkError → List ℕ → List ℕ → Type 0
CountsLine format held line (Ok n) old new = (held ≢ [] → HasLast old) → Counted (joins_held format held line) old new
CountsLine format held line (Err e) old new = new ≡ old
