-- The history of a run: what its steps and replies say. From the model of the queue it uses only the two ways in which
-- a line leaves a queue, and from that of the packer nothing.
use Rattle.std.specs.Prelude.{ℕ, ◌+◌, ◌==◌, List, [], ◌∷◌, Option, Some, None, Ok, Err, Bool, true, false, length, map, slice_get}
use Rattle.std.specs.Prelude.{count_by, if◌then◌else◌}
use Rattle.std.specs.List.{flat_map, list_any}
use Rattle.std.specs.Option.{option_to_list}
use Rattle.cadence_queue.specs.QueueModel.{Exit, by_take, by_drop}
use Rattle.cadence_settings.specs.declared.call.Call.{Call}
use Rattle.cadence_schedule.specs.declared.steps.Step.{Step}
use Rattle.cadence_schedule.specs.declared.steps.Step.TheVariants as step
use Rattle.cadence_schedule.specs.declared.steps.Reply.{Reply}
use Rattle.cadence_schedule.specs.declared.steps.Reply.TheVariants as reply

-- a step with its reply
abbrev pub Turn : Type 0 → Type 0
Turn A = Step A × Reply

-- the elements that got an answer, each with its answer; those after the last answer are left out
abbrev pub with_answers : {X Y : Type 0} → List X → List (Option Y) → List (X × Y)
with_answers [] answers = []
with_answers (x ∷ xs) [] = []
with_answers (x ∷ xs) (Some y ∷ answers) = (x, y) ∷ with_answers xs answers
with_answers (x ∷ xs) (None ∷ answers) = with_answers xs answers

-- each element, with those before it
abbrev pub with_before : {X : Type 0} → List X → List (List X × X)
with_before [] = []
with_before (x ∷ xs) = ([], x) ∷ map (λ p. (x ∷ p.0, p.1)) (with_before xs)

-- the elements without those that left the queue by a drop. The exits are those of the first elements; the others stay
abbrev pub without_dropped : {X : Type 0} → List X → List Exit → List X
without_dropped [] exits = []
without_dropped (x ∷ xs) [] = x ∷ xs
without_dropped (x ∷ xs) (by_take ∷ exits) = x ∷ without_dropped xs exits
without_dropped (x ∷ xs) (by_drop ∷ exits) = without_dropped xs exits

module _ {A : Type 0} where
  -- whether the turn is a take that got a line
  abbrev pub takes_text : Turn A → Bool
  takes_text (step.Take, reply.Text n) = true
  takes_text _ = false

  -- how many lines were taken
  abbrev pub taken_count : List (Turn A) → ℕ
  taken_count history = count_by takes_text history

  -- whether the turn is a call for which another line was dropped
  abbrev pub drops_text : Turn A → Bool
  drops_text (step.Call call, reply.CallDropped n m) = true
  drops_text _ = false

  -- how many lines were dropped
  abbrev pub dropped_count : List (Turn A) → ℕ
  dropped_count history = count_by drops_text history

  -- how many lines left the queue, by a take or a drop
  abbrev pub left_count : List (Turn A) → ℕ
  left_count history = taken_count history + dropped_count history

  -- how a line left the queue in this turn, if one did
  abbrev pub exit_by : Turn A → List Exit
  exit_by (step.Take, reply.Text n) = by_take ∷ []
  exit_by (step.Call call, reply.CallDropped n m) = by_drop ∷ []
  exit_by _ = []

  -- how the accepted lines left the queue, in order: the line that a take or a drop removes is the oldest one that
  -- waits, so the k-th exit is that of the k-th accepted line
  abbrev pub exits : List (Turn A) → List Exit
  exits history = flat_map exit_by history

  -- the count that was returned for a line handed on in this turn, or none if it was refused
  abbrev pub outcome_by : Turn A → List (Option ℕ)
  outcome_by (step.Hand, reply.Nothing) = []
  outcome_by (step.Hand, reply.Handed (Ok n)) = Some n ∷ []
  outcome_by (step.Hand, _) = None ∷ []
  outcome_by _ = []

  -- for each line handed on, in order, the count that was returned, or none if the line was refused
  abbrev pub outcomes : List (Turn A) → List (Option ℕ)
  outcomes history = flat_map outcome_by history

  -- whether the turn is a stop
  abbrev pub stops : Turn A → Bool
  stops (step.Stop, _) = true
  stops _ = false

  -- whether the queue was stopped
  abbrev pub is_stopped : List (Turn A) → Bool
  is_stopped history = list_any stops history

  -- whether the turn is a hand or a flush that returned an error
  abbrev pub is_error : Turn A → Bool
  is_error (step.Hand, reply.Handed (Err e)) = true
  is_error (step.Flush, reply.Flushed (Err e)) = true
  is_error _ = false

  -- how many hands and flushes returned an error
  abbrev pub error_count : List (Turn A) → ℕ
  error_count history = count_by is_error history

-- What a history says of lines, given the line of each call. Given the metric of each call, it says the same of
-- metrics.
module _ {A X : Type 0} (line_of : Call A → Option X) where
  -- the line that this turn accepts, if it does
  abbrev pub accepted_by_turn : Turn A → List X
  accepted_by_turn (step.Call call, reply.Called (Ok n)) = option_to_list (line_of call)
  accepted_by_turn (step.Call call, reply.CallDropped n m) = option_to_list (line_of call)
  accepted_by_turn _ = []

  -- the accepted lines: those of the calls that returned Ok, in order, whether or not another line was dropped for
  -- them
  abbrev pub accepted : List (Turn A) → List X
  accepted history = flat_map accepted_by_turn history

  -- the accepted lines that were not dropped. The k-th line taken is the k-th of them, and so is the k-th handed on
  abbrev pub undropped_lines : List (Turn A) → List X
  undropped_lines history = without_dropped (accepted history) (exits history)

  -- the kept lines: those that were handed on with the result Ok, in order, each with the count that was returned for
  -- it
  abbrev pub kept_counts : List (Turn A) → List (X × ℕ)
  kept_counts history = with_answers (undropped_lines history) (outcomes history)

  -- the kept lines: those that were handed on with the result Ok, in order
  abbrev pub kept : List (Turn A) → List X
  kept history = map (λ k. k.0) (kept_counts history)

  -- the line in hand: the one that was taken last, if it was not yet handed on
  abbrev pub in_hand : List (Turn A) → Option X
  in_hand history =
      if taken_count history == length (outcomes history) + 1
      then slice_get (undropped_lines history) (length (outcomes history)) else None

  -- the mark of a flush that returned Ok, by how many lines were kept before it
  abbrev pub mark_at : ℕ → Turn A → List ℕ
  mark_at place (step.Flush, reply.Flushed (Ok done)) = place ∷ []
  mark_at place _ = []

  -- the marks: how many lines were kept before each flush that returned Ok
  abbrev pub marks : List (Turn A) → List ℕ
  marks history = flat_map (λ p. mark_at (length (kept p.0)) p.1) (with_before history)

  -- the place of a hand that returned an error, by how many lines were kept before it
  abbrev pub refusal_at : ℕ → Turn A → List ℕ
  refusal_at place (step.Hand, reply.Handed (Err e)) = place ∷ []
  refusal_at place _ = []

  -- the places of refusals: how many lines were kept before each hand that returned an error
  abbrev pub refusals : List (Turn A) → List ℕ
  refusals history = flat_map (λ p. refusal_at (length (kept p.0)) p.1) (with_before history)
