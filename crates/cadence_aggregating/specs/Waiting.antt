-- What waits to be sent.
use Rattle.std.proofs.Common.{◌≡◌, ◌∙◌, List, ◌++◌, map, Ok}
use Rattle.std.specs.Prelude.{IfErr, Result}
use Rattle.cadence_stage.specs.OwnLog.{items_of}
use Rattle.cadence_errors.specs.declared.SinkError.{SinkError}
use Rattle.cadence_errors.specs.declared.SinkError.TheVariants.{OutOfMemory}
use Rattle.cadence_aggregating.specs.declared.note.Note.{Note}
use Rattle.cadence_aggregating.specs.declared.waiting.WaitingLines.{WaitingLines}

-- the notes of the lines that wait, in order
abbrev pub notes_of : WaitingLines → List Note
notes_of w = map (λ line. line.note) w.lines.items

-- No line went between the two states. If the call between them failed, memory ran out.
abbrev pub NoneWent : WaitingLines → Result (Unit {0}) SinkError → WaitingLines → Type 0
NoneWent old result new = (items_of new.gone ≡ items_of old.gone) × IfErr result (λ e. e ≡ OutOfMemory)

-- a call that consists of one that succeeds and of another one
pub none_went : (a b c : WaitingLines) (result : Result (Unit {0}) SinkError) → NoneWent a (Ok tt) b → NoneWent b result c → NoneWent a result c
none_went a b c result first more = (more.0 ∙ first.0, more.1)

-- the notes of the lines that are gone, and of those that wait
abbrev pub all_notes_of : WaitingLines → List Note
all_notes_of w = items_of w.gone ++ notes_of w
