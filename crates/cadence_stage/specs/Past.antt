-- What the calls of a stage, the oldest first, amount to.
use Rattle.std.specs.Prelude.{ℕ, Bool, true, false, List, [], ◌∷◌, Ok, Err}
use Rattle.std.specs.List.{flat_map}
use Rattle.cadence_stage.specs.Call.{Call, Line, Flush}

-- the line of a call, if the stage took it, with the number of bytes that it took
abbrev pub taken_by : Call → List (List ℕ × ℕ)
taken_by (Line line (Ok n)) = (line, n) ∷ []
taken_by (Line line (Err e)) = []
taken_by (Flush answer) = []

-- the lines that a stage took, each with the number of bytes that it took
abbrev pub taken_in : List Call → List (List ℕ × ℕ)
taken_in past = flat_map taken_by past

-- the line of a call, whether the stage took it or not
abbrev pub given_by : Call → List (List ℕ)
given_by (Line line answer) = line ∷ []
given_by (Flush answer) = []

-- the lines that a stage was given
abbrev pub lines_in : List Call → List (List ℕ)
lines_in past = flat_map given_by past

-- whether a call is a flush that succeeded
abbrev pub is_flush : Call → Bool
is_flush (Line line answer) = false
is_flush (Flush (Ok done)) = true
is_flush (Flush (Err e)) = false

-- whether the last call is a flush that succeeded; of no calls this is what was said before
abbrev pub ends_by_flush : Bool → List Call → Bool
ends_by_flush before [] = before
ends_by_flush before (call ∷ calls) = ends_by_flush (is_flush call) calls

abbrev pub is_flushed : List Call → Bool
is_flushed past = ends_by_flush false past
