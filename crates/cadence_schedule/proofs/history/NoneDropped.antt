-- A run over a queue that refuses lines when it is full drops no line.
use Rattle.std.proofs.Common.{◌≡◌, ℕ, List, [], ◌∷◌, ◌++◌, Option, Some, None, Bool, false, Result, Ok, Err, IfOk, cond, refl, ap, arith}
use Rattle.std.proofs.lemmas.List.Sums.{sum_by-cons}
use Rattle.cadence_errors.specs.declared.SinkError.{SinkError}
use Rattle.cadence_flow.specs.Frame.{Format}
use Rattle.cadence_queue.specs.declared.policy.QueuePolicy.TheVariants.{Refuse}
use Rattle.cadence_settings.specs.declared.call.Call.{Call}
use Rattle.cadence_schedule.specs.declared.steps.Step.TheVariants as step
use Rattle.cadence_schedule.specs.declared.steps.Reply.TheVariants as reply
use Rattle.cadence_schedule.specs.RunHistory.{Turn, dropped_count, drops_text}
use Rattle.cadence_schedule.specs.Replies.{MayReply, MayReplyAfter}
use Rattle.cadence_schedule.proofs.history.CallReplies.{call_drops}

-- If P implies Q, and P is true of the value of a result that is `Ok`, then so is Q.
pub on_ok : {X Y : Type 0} (P Q : X → Type 0) (result : Result X Y) → ((x : X) → P x → Q x) → IfOk result P → IfOk result Q
on_ok P Q (Ok x) more p = more x p
on_ok P Q (Err y) more p = tt

module _ {A : Type 0} (line_of : Call A → Option (List ℕ)) (may_give : SinkError → Bool) (takes_whole : Bool) (format : Format)
    (queue : Option ℕ) where
  none_by : (before : List (Turn A)) (t : Turn A) → MayReply line_of may_give takes_whole format queue Refuse before t → drops_text t ≡ false
  none_by before (step.Call call, reply.CallDropped n m) may =
      let (line, oldest, is, drops) = call_drops (line_of call) _ _ None n m may in
      absurd (let bad : ◌≡◌ {A = Option (List ℕ)} None (Some oldest) = drops in cc)
  none_by before _ may = refl

  pub none_dropped : (before h : List (Turn A)) → MayReplyAfter line_of may_give takes_whole format queue Refuse before h → dropped_count h ≡ 0
  none_dropped before [] may = refl
  none_dropped before (t ∷ h) (first, rest) =
      omega (
        arith,
        sum_by-cons (λ u. cond (drops_text u) 1 0) t h,
        ap {B = ℕ} (λ b. cond b 1 0) (none_by before t first),
        none_dropped
            (before ++ t ∷ []) h rest,
      )
