-- For proofs: the state of a run between two steps, seen as lists and numbers, and what its steps do to it. Only private
-- functions have contracts in these words.
use Rattle.std.specs.Prelude.{◌≡◌, ℕ, List, Option, map, string_bytes}
use Rattle.std.specs.Option.{option_map}
use Rattle.cadence_queue.specs.declared.policy.QueuePolicy.{QueuePolicy}
use Rattle.cadence_settings.specs.declared.call.Call.{Call}
use Rattle.cadence_schedule.specs.declared.running.Running.{Running}
use Rattle.cadence_schedule.specs.RunHistory.{Turn}
use Rattle.cadence_schedule.specs.Moves.{QueueState, Moves, Goes, at_start, given_in}
use Rattle.cadence_stage.specs.Call as stage
use Rattle.cadence_aggregate.specs.Led.{AllLead}

-- These calls of a stage, in order, lead from the old state to the new one, if this is what one call does.
abbrev pub AllCalled : {S : Type 0} → (S → S → stage.Call → Type 0) → S → List stage.Call → S → Type 0
AllCalled step old calls new = AllLead (λ s call t. step s t call) old calls new

module _ {S A : Type 0} where
  -- the line in hand
  abbrev pub hand_of : Running S A → Option (List ℕ)
  hand_of run = option_map string_bytes run.in_hand

  -- the state of the queue and the hand
  abbrev pub queue_state : Running S A → QueueState
  queue_state run = record {
    waiting = map string_bytes run.queue.waiting;
    stopped = run.queue.stopped;
    submitted = run.queue.submitted;
    drained = run.queue.drained;
    dropped = run.queue.dropped;
    in_hand = hand_of run;
  }

  -- what this turn gives to what takes the lines that are handed on
  abbrev pub given_by : Running S A → Turn A → List stage.Call
  given_by run turn = given_in turn (hand_of run)

  -- What a step with its reply does to the queue and the hand. The queue keeps its capacity and its policy.
  pub record MovesQueue (line_of : Call A → Option (List ℕ)) (old : Running S A) (turn : Turn A) (new : Running S A) : Type 0 where
    pub moves : Moves line_of old.queue.capacity old.queue.policy (queue_state old) turn (queue_state new)
    pub same_queue : new.queue.capacity ≡ old.queue.capacity
    pub same_policy : new.queue.policy ≡ old.queue.policy

  -- These turns, from a new queue and an empty hand on, led to this run, and what they gave led the stage to its last
  -- state, if this is what one call does.
  pub record Runs (step : S → S → stage.Call → Type 0) (line_of : Call A → Option (List ℕ)) (queue : Option ℕ) (policy : QueuePolicy) (first : S)
      (run : Running S A) (turns : List (Turn A)) : Type 0 where
    pub given : List stage.Call
    pub goes : Goes line_of queue policy at_start turns given (queue_state run)
    pub led : AllCalled step first given run.stage
    pub same_queue : run.queue.capacity ≡ queue
    pub same_policy : run.queue.policy ≡ policy
