-- A call of a stage, which is what takes lines one after the other, and what a log keeps of it.
use Rattle.std.specs.Prelude.{ℕ, List, [], ◌∷◌, Result}
use Rattle.std.specs.Option.{ok_or}
use Rattle.cadence_errors.specs.declared.SinkError.{SinkError}
use Rattle.cadence_stage.specs.declared.entry.Entry.{Entry}
use Rattle.cadence_stage.specs.declared.entry.Entry.TheVariants as entry

pub data Call : Type 0 where
  -- The stage was given this line, and took so many bytes of it or refused it with this error.
  Line : List ℕ → Result ℕ SinkError → Call
  -- The stage was flushed, or that failed with this error.
  Flush : Result (Unit {0}) SinkError → Call

-- the text of a list that has one text
abbrev pub only_text : List (List ℕ × ℕ) → List ℕ
only_text [] = []
only_text (text ∷ texts) = text.0

-- the call of an entry
abbrev pub call_of : Entry → Call
call_of (entry.Line text taken why) = Line (only_text text.items) (ok_or taken.value why.value)
call_of (entry.Flush done why) = Flush (ok_or done.value why.value)
