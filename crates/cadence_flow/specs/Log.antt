-- A log of packets in memory. A script says what it does with each packet.
use Rattle.std.specs.Prelude.{◌≡◌, ℕ, min, Bool, true, false, List, [], ◌∷◌, length, drop, IfOk, IfErr, Err}
use Rattle.std.specs.declared.result.Result.{Result}
use Rattle.cadence_errors.specs.declared.SinkError.{SinkError}
use Rattle.cadence_errors.specs.declared.SinkError.TheVariants.{ChannelFull, ChannelDisconnected, Io, PacketRefused, NothingWritten}
use Rattle.cadence_errors.specs.declared.SinkError.TheVariants.{OutOfMemory, NoAddresses}
use Rattle.cadence_flow.specs.Sums.{zero_sums}
use Rattle.cadence_flow.specs.Writer.{PacketHistory, WriterKind, history_of, no_refusals}
use Rattle.cadence_flow.specs.declared.io.packet_log.Answer.{Answer}
use Rattle.cadence_flow.specs.declared.io.refusals.Refusals.{Refusals}
use Rattle.cadence_flow.specs.declared.io.packet_log.Answer.TheVariants.{Whole, Short, Refuse}

-- the packets that the log took, its whole script, how many answers of the script are used up, and the refusals
pub record LogState : Type 0 where
  pub packets : List (List ℕ)
  pub script : List Answer
  pub used : ℕ
  pub refusals : Refusals

-- a log that has taken and refused nothing yet
abbrev pub new_log : List Answer → LogState
new_log script = record { packets = []; script = script; used = 0; refusals = no_refusals }

-- whether a log may return this error
abbrev pub log_may_give : SinkError → Bool
log_may_give PacketRefused = true
log_may_give OutOfMemory = true
log_may_give ChannelFull = false
log_may_give ChannelDisconnected = false
log_may_give (Io e) = false
log_may_give NothingWritten = false
log_may_give NoAddresses = false

-- whether a script has no short answer
abbrev pub has_no_short : List Answer → Bool
has_no_short [] = true
has_no_short (Whole ∷ rest) = has_no_short rest
has_no_short (Short n ∷ rest) = false
has_no_short (Refuse ∷ rest) = has_no_short rest

-- the history of a log, seen as a writer
abbrev pub log_history : LogState → PacketHistory
log_history l = history_of l.packets l.refusals

-- the kind of a log, seen as a writer: it reports its packets, and takes each packet whole if its script has no short
-- answer
abbrev pub log_kind : LogState → WriterKind
log_kind l =
    record {
      may_give = log_may_give;
      reports = true;
      takes_whole = has_no_short l.script;
      start = zero_sums;
    }

-- the answers of the script that are not used up yet
abbrev pub answers_left : LogState → List Answer
answers_left l = drop l.used l.script

-- the next answer of a script; after the script's end each packet is taken whole
abbrev pub next_answer : List Answer → Answer
next_answer [] = Whole
next_answer (answer ∷ rest) = answer

-- The result for a packet is what this answer of the script says. In place of a count it may be `OutOfMemory`.
abbrev pub Follows : Answer → List ℕ → Result ℕ SinkError → Type 0
Follows Whole packet result = IfOk result (λ n. n ≡ length packet) × IfErr result (λ e. e ≡ OutOfMemory)
Follows (Short k) packet result = IfOk result (λ n. n ≡ min k (length packet)) × IfErr result (λ e. e ≡ OutOfMemory)
Follows Refuse packet result = result ≡ Err PacketRefused
