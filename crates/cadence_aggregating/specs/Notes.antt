-- What a note says.
use Rattle.std.specs.Prelude.{ℕ, List}
use Rattle.cadence_aggregate.specs.Server.{Sample}
use Rattle.cadence_aggregating.specs.declared.note.Note.{Note}
use Rattle.cadence_aggregating.specs.Noted.{noted}
use Rattle.cadence_stage.specs.Call.{only_text}

-- the line of a note
abbrev pub line_of_note : Note → List ℕ
line_of_note note = only_text note.line.items

-- what the line of a note says
abbrev pub sample_of_note : Note → Sample
sample_of_note note = noted note.kind note.by note.name note.values (line_of_note note)
