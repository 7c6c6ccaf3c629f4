-- What an aggregator holds, and what a run of lines and flushes says.
use Rattle.std.specs.Prelude.{ℕ, ◌≡◌, ◌+◌, List, [], ◌∷◌, ◌++◌, Result, Ok, Err, length, true}
use Rattle.std.specs.Map.{lookup}
use Rattle.cadence_aggregate.specs.Held.{firsts, held_sums, held_levels, held_members, held_timings, rests}
use Rattle.cadence_aggregate.specs.Lines.{samples_of}
use Rattle.cadence_aggregate.specs.Quiet.{AreDistinct, HasRoomForContext, CanRaise, CanAppend, is_context}
use Rattle.cadence_aggregate.specs.Server.{Sample, is_plain}
use Rattle.cadence_aggregate.specs.declared.aggregator.Aggregator.{Aggregator}
use Rattle.cadence_aggregate.specs.declared.line.Line.{Line}
use Rattle.cadence_aggregate.specs.declared.line.Line.TheVariants.{Amount, Level, Member, Timing, Unclear, Other}
use Rattle.cadence_aggregate.specs.declared.runs.Step.{Step}
use Rattle.cadence_aggregate.specs.declared.runs.Step.TheVariants.{Add, Flush}
use Rattle.cadence_errors.specs.declared.SinkError.{SinkError}

-- what the lines say that the next flush sends first: as many of each kind as the last flush left, the oldest ones
abbrev pub held_first : Aggregator → List Sample
held_first a =
    firsts a.due (held_sums a.sums.entries) (held_levels a.levels.entries) (held_members a.members.entries)
    (held_timings a.timings.entries)

-- what the other lines of the next flush say
abbrev pub held_after : Aggregator → List Sample
held_after a =
    rests a.due (held_sums a.sums.entries) (held_levels a.levels.entries) (held_members a.members.entries)
    (held_timings a.timings.entries)

-- what the lines of the next flush say, in order
abbrev pub held : Aggregator → List Sample
held a = held_first a ++ held_after a

-- In each table the contexts differ, so that a flush sends one line for each.
pub record HasDistinct (a : Aggregator) : Type 0 where
  pub sums : AreDistinct a.sums.entries
  pub levels : AreDistinct a.levels.entries
  pub members : AreDistinct a.members.entries
  pub timings : AreDistinct a.timings.entries

-- Each table has room for this many contexts.
pub record HasRoomForEach (most : ℕ) (a : Aggregator) : Type 0 where
  pub sums : a.sums.cap ≡ most
  pub levels : a.levels.cap ≡ most
  pub members : a.members.cap ≡ most
  pub timings : a.timings.cap ≡ most

-- The aggregator can hold what the line says, without sending a line.
abbrev pub CanHold : Aggregator → Line → Type 0
CanHold a (Amount c by) = HasRoomForContext a.sums × CanRaise (lookup (is_context c.now) a.sums.entries) by
CanHold a (Level c value) = HasRoomForContext a.levels × (is_plain value.now ≡ true)
CanHold a (Member c) = HasRoomForContext a.members
CanHold a (Timing c values) =
    HasRoomForContext a.timings
    × CanAppend (lookup (is_context c.now) a.timings.entries) (length c.now + length values.now) a.most_bytes
CanHold a (Unclear line) = ⊥
CanHold a (Other line) = ⊥

-- what a step says: what its line says, if it was accepted
abbrev pub said_by : Step → Result (Unit {0}) SinkError → List Sample
said_by (Add line) (Ok done) = samples_of line
said_by (Add line) (Err e) = []
said_by Flush reply = []

-- what the accepted lines of a run say, in order, given the replies of its steps
abbrev pub accepted_samples : List Step → List (Result (Unit {0}) SinkError) → List Sample
accepted_samples [] replies = []
accepted_samples (step ∷ steps) [] = []
accepted_samples (step ∷ steps) (reply ∷ replies) = said_by step reply ++ accepted_samples steps replies
