-- A run with one turn more, and its steps paired with their replies.
use Rattle.std.proofs.Common.{◌≡◌, ℕ, ◌≤◌, List, [], ◌∷◌, ◌++◌, Option, Some, length, refl, sym, ap, ◌∙◌, arith, subst, zero-le}
use Rattle.std.specs.Prelude.{All}
use Rattle.std.specs.List.{zip}
use Rattle.std.proofs.lemmas.List.{append-nil, append_assoc, length-append}
use Rattle.std.proofs.lemmas.List.Concat.{flat_map-append}
use Rattle.std.proofs.lemmas.List.Elements.{All-append}
use Rattle.cadence_aggregate.specs.Led.{lead_joined}
use Rattle.cadence_queue.specs.declared.policy.QueuePolicy.{QueuePolicy}
use Rattle.cadence_settings.specs.declared.call.Call.{Call}
use Rattle.cadence_schedule.specs.declared.steps.Step.{Step}
use Rattle.cadence_schedule.specs.declared.steps.Reply.{Reply}
use Rattle.cadence_schedule.specs.declared.steps.Step.TheVariants as step
use Rattle.cadence_schedule.specs.declared.steps.Reply.TheVariants as reply
use Rattle.cadence_schedule.specs.RunHistory.{Turn, accepted, accepted_by_turn}
use Rattle.cadence_schedule.specs.Moves.{QueueState, Moves, Goes, at_start, given_in}
use Rattle.cadence_schedule.specs.Running.{AllCalled, MovesQueue, Runs, given_by, queue_state}
use Rattle.cadence_stage.specs.Call as stage
use Rattle.cadence_schedule.specs.declared.running.Running.{Running}

module _ {A : Type 0} where
  pub zip_push : (xs : List (Step A)) (ys : List Reply) (x : Step A) (y : Reply) → length xs ≡ length ys
      → ◌≡◌ {A = List (Turn A)} (zip (xs ++ x ∷ []) (ys ++ y ∷ [])) (zip xs ys ++ (x, y) ∷ [])
  zip_push [] [] x y e = refl
  zip_push [] (b ∷ ys) x y e = absurd (omega arith)
  zip_push (a ∷ xs) [] x y e = absurd (omega arith)
  zip_push (a ∷ xs) (b ∷ ys) x y e = ap (λ l. (a, b) ∷ l) (zip_push xs ys x y (omega arith))

  pub length-zip : (xs : List (Step A)) (ys : List Reply) → length xs ≡ length ys → length (zip xs ys) ≡ length xs
  length-zip [] [] e = refl
  length-zip [] (b ∷ ys) e = refl
  length-zip (a ∷ xs) [] e = absurd (omega arith)
  length-zip (a ∷ xs) (b ∷ ys) e = omega (arith, length-zip xs ys (omega arith))

  -- What is true of the metrics accepted so far, and of those of one step more, is true of all of them.
  pub accepted_push : {X : Type 0} (P : X → Type 0) (of : Call A → Option X) (xs xs' : List (Step A)) (ys ys' : List Reply) (x : Step A) (y : Reply)
      → length xs ≡ length ys → xs' ≡ xs ++ x ∷ [] → ys' ≡ ys ++ y ∷ []
      → All P (accepted of (zip xs ys)) → All P (accepted_by_turn of (x, y)) → All P (accepted of (zip xs' ys'))
  accepted_push P of xs xs' ys ys' x y short e f before here =
      subst (λ turns. All P (accepted of turns)) (sym (zip_push xs ys x y short) ∙ (λ i. zip (sym e i) (sym f i)))
      (subst (All P) (sym (flat_map-append (accepted_by_turn of) (zip xs ys) ((x, y) ∷ [])
      ∙ ap (λ l. accepted of (zip xs ys) ++ l) (append-nil (accepted_by_turn of (x, y)))))
      (All-append P (accepted of (zip xs ys)) (accepted_by_turn of (x, y)) before here))

module _ {A : Type 0} (line_of : Call A → Option (List ℕ)) (queue : Option ℕ) (policy : QueuePolicy) where
  goes_more : (old mid new : QueueState) (turns : List (Turn A)) (given : List stage.Call) (t : Turn A) → Goes line_of queue policy old turns given mid
      → Moves line_of queue policy mid t new → Goes line_of queue policy old (turns ++ t ∷ []) (given ++ given_in t mid.in_hand) new
  goes_more old mid new [] given t (none, same) move = (
    new,
    [],
    ap (λ xs. xs ++ given_in t mid.in_hand) none ∙ ap (λ s. given_in t s.in_hand) same ∙ sym (append-nil (given_in t old.in_hand)),
    subst (λ s. Moves line_of queue policy s t new) same move,
    (refl, refl),
  )
  goes_more old mid new (u ∷ turns) given t (next, rest, are, first, later) move = (
    next,
    rest ++ given_in t mid.in_hand,
    ap (λ xs. xs ++ given_in t mid.in_hand) are ∙ append_assoc (given_in u old.in_hand) rest (given_in t mid.in_hand),
    first,
    goes_more next mid new turns rest t later move,
  )

  given_one : (t : Turn A) (hand : Option (List ℕ)) → length (given_in t hand) ≤ 1
  given_one (step.Hand, reply.Handed result) (Some line) = omega arith
  given_one (step.Flush, reply.Flushed result) hand = omega arith
  given_one _ _ = zero-le

  -- Each turn gives one call at most.
  pub given_le : (turns : List (Turn A)) (old new : QueueState) (given : List stage.Call) → Goes line_of queue policy old turns given new
      → length given ≤ length turns
  given_le [] old new given (none, same) = omega (arith, ap (λ xs. length xs) none)
  given_le (t ∷ turns) old new given (mid, rest, are, first, later) =
      omega (arith, ap (λ xs. length xs) are, length-append (given_in t old.in_hand) rest, given_one t old.in_hand, given_le turns mid new rest later)

  module _ {S : Type 0} (step : S → S → stage.Call → Type 0) (first : S) where
    -- One turn more.
    pub runs_more : (mid new : Running S A) (turns : List (Turn A)) (t : Turn A) → Runs step line_of queue policy first mid turns
        → MovesQueue line_of mid t new → AllCalled step mid.stage (given_by mid t) new.stage
        → Runs step line_of queue policy first new (turns ++ t ∷ [])
    runs_more mid new turns t r move led = record {
      given = r.given ++ given_by mid t;
      goes = goes_more at_start (queue_state mid) (queue_state new) turns r.given t r.goes
          (subst (λ p. Moves line_of queue p (queue_state mid) t (queue_state new)) r.same_policy
          (subst (λ q. Moves line_of q mid.queue.policy (queue_state mid) t (queue_state new)) r.same_queue move.moves));
      led = lead_joined (λ s call t. step s t call) r.given (given_by mid t) first mid.stage new.stage r.led led;
      same_queue = move.same_queue ∙ r.same_queue;
      same_policy = move.same_policy ∙ r.same_policy;
    }
