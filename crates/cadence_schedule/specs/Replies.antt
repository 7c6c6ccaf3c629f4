-- Which reply a step may have, after the steps and replies before it.
use Rattle.std.specs.Prelude.{◌≡◌, ℕ, ◌≤◌, ◌⊎◌, List, [], ◌∷◌, ◌++◌, Option, Some, None, Ok, Err, Bool, true, false, length, drop, slice_get}
use Rattle.cadence_errors.specs.declared.MetricError.{MetricError}
use Rattle.cadence_errors.specs.declared.MetricError.TheVariants.{Sink}
use Rattle.cadence_errors.specs.declared.SinkError.{SinkError}
use Rattle.cadence_errors.specs.declared.SinkError.TheVariants.{ChannelFull, ChannelDisconnected, NothingWritten}
use Rattle.cadence_errors.specs.Errors.{IsInvalid, out_of_memory}
use Rattle.cadence_flow.specs.Frame.{Format, is_oversize}
use Rattle.cadence_queue.specs.Queue.{at_capacity, drops_for_room}
use Rattle.cadence_queue.specs.declared.policy.QueuePolicy.{QueuePolicy}
use Rattle.cadence_settings.specs.declared.call.Call.{Call}
use Rattle.cadence_schedule.specs.declared.steps.Step.TheVariants as step
use Rattle.cadence_schedule.specs.declared.steps.Reply.{Reply}
use Rattle.cadence_schedule.specs.declared.steps.Reply.TheVariants as reply
use Rattle.cadence_schedule.specs.RunHistory.{Turn, accepted, left_count, in_hand, is_stopped}

-- The reply to a call is the wanted one, or says that memory ran out.
abbrev pub OrNoMemory : Reply → Reply → Type 0
OrNoMemory wanted answer = (answer ≡ wanted) ⊎ (answer ≡ reply.Called (Err out_of_memory))

-- The reply to a call, by its line, whether the queue is stopped, whether it is full, and which line a full queue drops
-- for another. The first case that applies counts. In each of them but the first, memory may run out instead.
abbrev pub CallReplies : Option (List ℕ) → Bool → Bool → Option (List ℕ) → Reply → Type 0
CallReplies None stopped full drops answer = (e : MetricError) × IsInvalid e × (answer ≡ reply.Called (Err e))
CallReplies (Some line) true full drops answer = OrNoMemory (reply.Called (Err (Sink ChannelDisconnected))) answer
CallReplies (Some line) false true (Some oldest) answer = OrNoMemory (reply.CallDropped (length line) (length oldest)) answer
CallReplies (Some line) false true None answer = OrNoMemory (reply.Called (Err (Sink ChannelFull))) answer
CallReplies (Some line) false false drops answer = OrNoMemory (reply.Called (Ok (length line))) answer

-- The reply to a take, by the line in hand, the next line that waits, and whether the queue is stopped. The first case
-- that applies counts.
abbrev pub TakeReplies : Option (List ℕ) → Option (List ℕ) → Bool → Reply → Type 0
TakeReplies (Some line) next stopped answer = answer ≡ reply.Busy
TakeReplies None (Some line) stopped answer = answer ≡ reply.Text (length line)
TakeReplies None None true answer = answer ≡ reply.Ended
TakeReplies None None false answer = answer ≡ reply.Empty

-- The count that is returned for a line is its length; of an oversize line, a writer that may take a part of a packet
-- may take less.
pub record IsCount (takes_whole : Bool) (format : Format) (line : List ℕ) (n : ℕ) : Type 0 where
  pub within : n ≤ length line
  pub fits : is_oversize format line ≡ false → n ≡ length line
  pub whole : takes_whole ≡ true → n ≡ length line

-- The error is one that the writer may give, or `NothingWritten`, if the writer may take a part of a packet: it took 0
-- bytes then.
abbrev pub MayFail : (SinkError → Bool) → Bool → SinkError → Type 0
MayFail may_give takes_whole e = (may_give e ≡ true) ⊎ ((takes_whole ≡ false) × (e ≡ NothingWritten))

-- The reply to a hand, by the line in hand: the count of the line, or an error.
abbrev pub HandReplies : (SinkError → Bool) → Bool → Format → Option (List ℕ) → Reply → Type 0
HandReplies may_give takes_whole format None answer = answer ≡ reply.Nothing
HandReplies may_give takes_whole format (Some line) answer =
    ((n : ℕ) × IsCount takes_whole format line n × (answer ≡ reply.Handed (Ok n)))
    ⊎ ((e : SinkError) × MayFail may_give takes_whole e × (answer ≡ reply.Handed (Err e)))

-- by the line of each call, which errors the writer may give, whether it takes each packet whole or refuses it, the
-- packer's capacity and ending, and the queue's capacity and policy
module _ {A : Type 0} (line_of : Call A → Option (List ℕ)) (may_give : SinkError → Bool) (takes_whole : Bool) (format : Format)
    (queue : Option ℕ) (policy : QueuePolicy) where
  -- the accepted lines that wait: those after the first ones, which were taken or dropped
  abbrev pub waiting : List (Turn A) → List (List ℕ)
  waiting before = drop (left_count before) (accepted line_of before)

  -- A step may have this reply after these steps and replies.
  abbrev pub MayReply : List (Turn A) → Turn A → Type 0
  MayReply before (step.Call call, answer) =
      CallReplies (line_of call) (is_stopped before) (at_capacity queue (waiting before)) (drops_for_room policy (waiting before)) answer
  MayReply before (step.Take, answer) =
      TakeReplies (in_hand line_of before) (slice_get (accepted line_of before) (left_count before)) (is_stopped before) answer
  MayReply before (step.Hand, answer) = HandReplies may_give takes_whole format (in_hand line_of before) answer
  MayReply before (step.Flush, reply.Flushed (Ok done)) = Unit {0}
  MayReply before (step.Flush, reply.Flushed (Err e)) = MayFail may_give takes_whole e
  MayReply before (step.Stop, reply.Stopped) = Unit {0}
  MayReply before _ = ⊥

  -- Each of the steps may have its reply after the steps and replies before it.
  abbrev pub MayReplyAfter : List (Turn A) → List (Turn A) → Type 0
  MayReplyAfter before [] = Unit {0}
  MayReplyAfter before (turn ∷ rest) = MayReply before turn × MayReplyAfter (before ++ turn ∷ []) rest
