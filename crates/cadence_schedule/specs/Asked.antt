-- What each step of a schedule asked of the packer behind an aggregator.
use Rattle.std.specs.Prelude.{◌≡◌, ◌⊎◌, List, [], ◌∷◌, ◌++◌, Ok, Err, Option, Result, Some, None}
use Rattle.cadence_errors.specs.declared.SinkError.{SinkError}
use Rattle.cadence_errors.specs.declared.SinkError.TheVariants.{OutOfMemory}
use Rattle.cadence_schedule.specs.RunHistory.{Turn}
use Rattle.cadence_schedule.specs.declared.steps.Step.TheVariants as step
use Rattle.cadence_schedule.specs.declared.steps.Reply.TheVariants as reply
use Rattle.cadence_stage.specs.Call.{Call, Flush, Line}

-- The packer was asked to write lines and kept each, except the last one if there is an error: it refused that one with
-- this error.
abbrev pub WritesLines : List Call → Option SinkError → Type 0
WritesLines [] error = error ≡ None
WritesLines (Line line (Ok n) ∷ xs) error = WritesLines xs error
WritesLines (Line line (Err e) ∷ xs) error = (xs ≡ []) × (error ≡ Some e)
WritesLines (Flush result ∷ xs) error = ⊥

-- The packer was asked to write lines and kept each, and then it was flushed with this answer.
abbrev pub WritesThen : List Call → Call → Type 0
WritesThen asked last = (lines : List Call) × WritesLines lines None × (asked ≡ lines ++ last ∷ [])

-- The last line was refused with this error, or memory ran out before a line was written.
abbrev pub FailsBy : List Call → SinkError → Type 0
FailsBy asked e = WritesLines asked (Some e) ⊎ (WritesLines asked None × (e ≡ OutOfMemory))

-- A line made the packer write lines. If it failed, the last line was refused with its error, or memory ran out.
abbrev pub AsksLine : {T : Type 0} → Result T SinkError → List Call → Type 0
AsksLine (Ok x) asked = WritesLines asked None
AsksLine (Err e) asked = FailsBy asked e

-- A flush made the packer write lines, and then flushed it. If it failed, the last thing that it asked was refused with
-- its error, or memory ran out.
abbrev pub AsksFlush : Result (Unit {0}) SinkError → List Call → Type 0
AsksFlush (Ok done) asked = WritesThen asked (Flush (Ok done))
AsksFlush (Err e) asked = FailsBy asked e ⊎ WritesThen asked (Flush (Err e))

-- what a call of the sums before the packer asked of the packer
abbrev pub AsksCall : Call → List Call → Type 0
AsksCall (Line line result) asked = AsksLine result asked
AsksCall (Flush result) asked = AsksFlush result asked

module _ {A : Type 0} where
  -- A hand gave a line, and a flush was a flush. Other steps asked nothing.
  abbrev pub Asks : Turn A → List Call → Type 0
  Asks (step.Hand, reply.Handed result) asked = AsksLine result asked
  Asks (step.Flush, reply.Flushed result) asked = AsksFlush result asked
  Asks turn asked = asked ≡ []

  -- The steps, each with its reply, asked all of this, in order.
  abbrev pub AskAll : List (Turn A) → List Call → Type 0
  AskAll [] all = all ≡ []
  AskAll (turn ∷ turns) all =
      (asked rest : List Call) × (all ≡ asked ++ rest) × Asks turn asked × AskAll turns rest
