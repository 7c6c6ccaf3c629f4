-- The replies, the queue and the hand of a whole run, and that no kept line is empty.
use Rattle.std.proofs.Common.{◌≡◌, ◌≢◌, ℕ, ◌^◌, ◌<◌, List, [], ◌∷◌, Option, None, Some, Vec, length, refl, sym, ◌∙◌, arith}
use Rattle.std.specs.List.{AllByRecursion, zip}
use Rattle.std.specs.Prelude.{IfSome}
use Rattle.std.proofs.lemmas.List.Elements.{recursion_from_All}
use Rattle.cadence_flow.specs.Writer.{PacketHistory}
use Rattle.cadence_flow.specs.declared.io.counting.CountingWriter.{CountingWriter}
use Rattle.cadence_settings.specs.declared.call.Call.{Call}
use Rattle.cadence_schedule.specs.Headline.{Given, line_by, HasReplies}
use Rattle.cadence_schedule.specs.RunHistory.{Turn, accepted, dropped_count, kept, taken_count}
use Rattle.cadence_schedule.specs.RunOutcome.{outcome_after}
use Rattle.cadence_schedule.specs.Running.{Runs, queue_state}
use Rattle.cadence_stage.specs.Call as stage
use Rattle.cadence_schedule.specs.Calls.{texts_in}
use Rattle.cadence_schedule.specs.declared.packing.Packing.{Packing}
use Rattle.cadence_schedule.specs.declared.running.Running.{Running}
use Rattle.cadence_schedule.specs.declared.steps.Reply.{Reply}
use Rattle.cadence_schedule.proofs.headline.FinishedRun.{accepted_le, short_mod}
use Rattle.cadence_schedule.proofs.headline.Queued.{Queued, queued}
use Rattle.cadence_schedule.proofs.headline.RunOfTurns.{length-zip}
use Rattle.cadence_schedule.proofs.history.KeptMetrics.{all_accepted, all_kept}
use Rattle.cadence_schedule.proofs.packets.PackedLines.{AreFilled}
use Rattle.cadence_schedule.proofs.packets.Refusing.{MayAnswer}

-- No kept line is empty.
pub all_filled : {A : Type 0} (lines : Call A → Option (List ℕ)) → ((call : Call A) (line : List ℕ) → lines call ≡ Some line → line ≢ [])
    → (turns : List (Turn A)) → AllByRecursion (λ (line : List ℕ). line ≢ []) (kept lines turns)
all_filled lines filled turns =
    recursion_from_All (λ (line : List ℕ). line ≢ []) (kept lines turns)
    (all_kept (λ (line : List ℕ). line ≢ []) lines turns
    (all_accepted (λ (line : List ℕ). line ≢ []) lines (λ call. each (lines call) (filled call)) turns))
  where
    each : (o : Option (List ℕ)) → ((line : List ℕ) → o ≡ Some line → line ≢ []) → IfSome o (λ (line : List ℕ). line ≢ [])
    each None h = tt
    each (Some line) h = h line refl

pub texts_filled : (counts : List (List ℕ × ℕ)) → AllByRecursion (λ (line : List ℕ). line ≢ []) (texts_in counts) → AreFilled counts
texts_filled [] h = tt
texts_filled (k ∷ counts) (h, hs) = (h, texts_filled counts hs)

module _ {S W A : Type 0} (history_of : W → PacketHistory) (given : Given A) (leads : S → S → stage.Call → Type 0) (first : S) (run : Running S A)
    (packing : Packing (CountingWriter W) A) (replies : Vec Reply A) (one_each : length replies.items ≡ length given.steps) (few : length given.steps < 2 ^ 64)
    (r : Runs leads (line_by given) given.queue given.policy first run (zip given.steps replies.items))
    (causes : AllByRecursion (MayAnswer given.kind given.format) r.given) where
  abbrev turns : List (Turn A)
  turns = zip given.steps replies.items

  pub after : Queued (line_by given) given.kind given.format given.queue given.policy turns (queue_state run) r.given
  after = queued (line_by given) given.kind given.format given.queue given.policy turns (queue_state run) r.given causes r.goes

  pub has_replies : HasReplies history_of given (outcome_after run packing replies)
  has_replies =
      let short : length turns < 2 ^ 64 = omega (arith, length-zip given.steps replies.items (sym one_each), few) in
      record {
        one_each = one_each;
        causes = after.replies;
        waiting = after.line.waiting_is;
        submitted = after.line.submitted_is
            ∙ short_mod (length (accepted (line_by given) turns)) (length turns) (accepted_le (line_by given) turns) short;
        drained = after.line.drained_is
            ∙ short_mod (taken_count turns) (length turns) (omega (arith, after.line.within, accepted_le (line_by given) turns)) short;
        dropped = after.line.dropped_is
            ∙ short_mod (dropped_count turns) (length turns) (omega (arith, after.line.within, accepted_le (line_by given) turns)) short;
        stopped = after.line.stopped_is;
        capacity = r.same_queue;
        policy = r.same_policy;
        in_hand = after.line.hand_is;
      }
