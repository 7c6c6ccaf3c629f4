-- The reply that the state of a run calls for is one that its history allows.
use Rattle.std.proofs.Common.{◌≡◌, ℕ, ◌+◌, ◌%◌, ◌^◌, List, [], Option, None, Bool, true, false, length, drop, sym, ap, ◌∙◌, arith, subst, inl, inr}
use Rattle.std.specs.Prelude.{slice_get}
use Rattle.std.proofs.lemmas.List.{length-drop}
use Rattle.std.proofs.lemmas.Option.{slice_get_past}
use Rattle.cadence_errors.specs.declared.SinkError.{SinkError}
use Rattle.cadence_flow.specs.Frame.{Format}
use Rattle.cadence_flow.specs.Packer.{HasCause}
use Rattle.cadence_queue.specs.Queue.{at_capacity, drops_for_room}
use Rattle.cadence_queue.specs.declared.policy.QueuePolicy.{QueuePolicy}
use Rattle.cadence_flow.specs.Writer.{PacketHistory, WriterKind}
use Rattle.cadence_settings.specs.declared.call.Call.{Call}
use Rattle.cadence_schedule.specs.declared.steps.Step.TheVariants as step
use Rattle.cadence_schedule.specs.declared.steps.Reply.{Reply}
use Rattle.cadence_schedule.specs.RunHistory.{Turn, left_count, is_stopped, accepted, in_hand}
use Rattle.cadence_schedule.specs.Replies.{CallReplies, TakeReplies, HandReplies, MayFail, MayReply}
use Rattle.cadence_schedule.specs.Moves.{QueueState}
use Rattle.cadence_schedule.proofs.history.QueueAndHand.{QueueAfter}

-- An error of the packer has a cause that its writer allows.
pub may_fail : (kind : WriterKind) (old new : PacketHistory) (before offered : List ℕ) (e : SinkError) → HasCause kind old new before offered e
    → MayFail kind.may_give kind.takes_whole e
may_fail kind old new before offered e (inl refusal) = inl refusal.may_give
may_fail kind old new before offered e (inr nothing) = inr (nothing.not_whole, nothing.error)

pub refused_once : (kind : WriterKind) (old new : PacketHistory) (before offered : List ℕ) (e : SinkError) → kind.takes_whole ≡ true
    → HasCause kind old new before offered e → new.refusals ≡ (old.refusals + 1) % 2 ^ 64
refused_once kind old new before offered e whole (inl refusal) = refusal.once.0
refused_once kind old new before offered e whole (inr nothing) = absurd (let bad : true ≡ false = sym whole ∙ nothing.not_whole in cc)

module _ {A : Type 0} (line_of : Call A → Option (List ℕ)) (kind : WriterKind) (format : Format) (queue : Option ℕ) (policy : QueuePolicy) where
  -- The reply to a call that the state calls for is one that the history allows.
  pub call_reply : (h : List (Turn A)) (s : QueueState) → QueueAfter line_of queue h s → (call : Call A) (answer : Reply)
      → CallReplies (line_of call) s.stopped (at_capacity queue s.waiting) (drops_for_room policy s.waiting) answer
      → MayReply line_of kind.may_give kind.takes_whole format queue policy h (step.Call call, answer)
  call_reply h s a call answer c =
      subst (λ b. CallReplies (line_of call) b (at_capacity queue (drop (left_count h) (accepted line_of h)))
      (drops_for_room policy (drop (left_count h) (accepted line_of h))) answer) a.stopped_is
      (subst (λ w. CallReplies (line_of call) s.stopped (at_capacity queue w) (drops_for_room policy w) answer) a.waiting_is c)

  pub nothing_waits : (h : List (Turn A)) (s : QueueState) → QueueAfter line_of queue h s → s.waiting ≡ []
      → slice_get (accepted line_of h) (left_count h) ≡ None
  nothing_waits h s a none = slice_get_past (accepted line_of h) (left_count h) (omega (
    arith,
    ap (λ l. length l) (sym a.waiting_is
        ∙ none),
    length-drop (left_count h) (accepted line_of h),
  ))

  pub take_reply : (h : List (Turn A)) (hand next : Option (List ℕ)) (stopped : Bool) (answer : Reply) → in_hand line_of h ≡ hand
      → slice_get (accepted line_of h) (left_count h) ≡ next → is_stopped h ≡ stopped → TakeReplies hand next stopped answer
      → MayReply line_of kind.may_give kind.takes_whole format queue policy h (step.Take, answer)
  take_reply h hand next stopped answer e f g r =
      subst (λ o. TakeReplies o (slice_get (accepted line_of h) (left_count h)) (is_stopped h) answer) (sym e)
      (subst (λ o. TakeReplies hand o (is_stopped h) answer) (sym f) (subst (λ b. TakeReplies hand next b answer) (sym g) r))

  pub hand_reply : (h : List (Turn A)) (s : QueueState) (hand : Option (List ℕ)) (answer : Reply) → QueueAfter line_of queue h s → s.in_hand ≡ hand
      → HandReplies kind.may_give kind.takes_whole format hand answer
      → MayReply line_of kind.may_give kind.takes_whole format queue policy h (step.Hand, answer)
  hand_reply h s hand answer a e r = subst (λ o. HandReplies kind.may_give kind.takes_whole format o answer) (sym e ∙ a.hand_is) r
