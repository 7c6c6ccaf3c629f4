-- For proofs: a reader of the headline needs none of these definitions. They say what each step does to the queue and the
-- hand of a run, in the words of the layer below, and what it gives to the packer, or to the sums before it.
use Rattle.std.specs.Prelude.{◌≡◌, ℕ, ◌+◌, ◌%◌, ◌^◌, List, [], ◌∷◌, ◌++◌, Option, Some, None, Ok, Err, Bool, true, false, length, drop}
use Rattle.std.specs.Option.{option_to_list}
use Rattle.cadence_queue.specs.Queue.{at_capacity, drops_for_room}
use Rattle.cadence_queue.specs.declared.policy.QueuePolicy.{QueuePolicy}
use Rattle.cadence_settings.specs.declared.call.Call.{Call}
use Rattle.cadence_schedule.specs.declared.steps.Step.TheVariants as step
use Rattle.cadence_schedule.specs.declared.steps.Reply.TheVariants as reply
use Rattle.cadence_schedule.specs.RunHistory.{Turn}
use Rattle.cadence_schedule.specs.Replies.{CallReplies}
use Rattle.cadence_stage.specs.Call.{Flush, Line}
use Rattle.cadence_stage.specs.Call as stage

-- the queue and the hand between two steps
pub record QueueState : Type 0 where
  -- the lines that wait in the queue, the oldest first
  pub waiting : List (List ℕ)
  -- whether the queue is stopped
  pub stopped : Bool
  -- the queue's counts of lines accepted, taken and dropped, modulo 2 to the 64
  pub submitted : ℕ
  pub drained : ℕ
  pub dropped : ℕ
  -- the line that was taken and not yet handed on
  pub in_hand : Option (List ℕ)

-- the queue and the hand before the first step
abbrev pub at_start : QueueState
at_start = record { waiting = []; stopped = false; submitted = 0; drained = 0; dropped = 0; in_hand = None }

-- what the turn gives to the packer, or to the sums before it, if this is the line in hand
abbrev pub given_in : {A : Type 0} → Turn A → Option (List ℕ) → List stage.Call
given_in (step.Hand, reply.Handed result) (Some line) = Line line result ∷ []
given_in (step.Flush, reply.Flushed result) hand = Flush result ∷ []
given_in turn hand = []

-- by the line of each call, and the queue's capacity and policy
module _ {A : Type 0} (line_of : Call A → Option (List ℕ)) (queue : Option ℕ) (policy : QueuePolicy) where
  -- The step with this reply leads from the old state to the new one.
  abbrev pub Moves : QueueState → Turn A → QueueState → Type 0
  Moves old (step.Call call, reply.Called (Ok n)) new =
      CallReplies (line_of call) old.stopped (at_capacity queue old.waiting) (drops_for_room policy old.waiting) (reply.Called (Ok n))
      × (new ≡ record old { waiting = old.waiting ++ option_to_list (line_of call); submitted = (old.submitted + 1) % 2 ^ 64 })
  Moves old (step.Call call, reply.Called (Err e)) new =
      CallReplies (line_of call) old.stopped (at_capacity queue old.waiting) (drops_for_room policy old.waiting) (reply.Called (Err e))
      × (new ≡ old)
  Moves old (step.Call call, reply.CallDropped n m) new =
      CallReplies (line_of call) old.stopped (at_capacity queue old.waiting) (drops_for_room policy old.waiting) (reply.CallDropped n m)
      × (new ≡ record old {
        waiting = drop 1 old.waiting ++ option_to_list (line_of call);
        submitted = (old.submitted + 1) % 2 ^ 64;
        dropped = (old.dropped + 1) % 2 ^ 64;
      })
  Moves old (step.Take, reply.Text n) new =
      (old.in_hand ≡ None) × ((line : List ℕ) × (rest : List (List ℕ)) × (old.waiting ≡ line ∷ rest) × (n ≡ length line)
      × (new ≡ record old { waiting = rest; drained = (old.drained + 1) % 2 ^ 64; in_hand = Some line }))
  Moves old (step.Take, reply.Busy) new = ((line : List ℕ) × (old.in_hand ≡ Some line)) × (new ≡ old)
  Moves old (step.Take, reply.Ended) new = (old.in_hand ≡ None) × (old.waiting ≡ []) × (old.stopped ≡ true) × (new ≡ old)
  Moves old (step.Take, reply.Empty) new = (old.in_hand ≡ None) × (old.waiting ≡ []) × (old.stopped ≡ false) × (new ≡ old)
  Moves old (step.Hand, reply.Nothing) new = (old.in_hand ≡ None) × (new ≡ old)
  Moves old (step.Hand, reply.Handed result) new = ((line : List ℕ) × (old.in_hand ≡ Some line)) × (new ≡ record old { in_hand = None })
  Moves old (step.Flush, reply.Flushed result) new = new ≡ old
  Moves old (step.Stop, reply.Stopped) new = new ≡ record old { stopped = true }
  Moves old _ new = ⊥

  -- The steps, each with its reply, lead from the old state to the new one, and give all of this.
  abbrev pub Goes : QueueState → List (Turn A) → List stage.Call → QueueState → Type 0
  Goes old [] given new = (given ≡ []) × (new ≡ old)
  Goes old (turn ∷ turns) given new =
      (mid : QueueState) × (rest : List stage.Call) × (given ≡ given_in turn old.in_hand ++ rest) × Moves old turn mid × Goes mid turns rest new
