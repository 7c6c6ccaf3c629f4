-- What one turn more does to the kept lines.
use Rattle.std.proofs.Common.{◌≡◌, ℕ, zero-le, ◌≤◌, List, [], ◌∷◌, ◌++◌, Option, Some, Ok, Err, length, drop, refl}
use Rattle.std.proofs.Common.{sym, ap, ◌∙◌, arith}
use Rattle.std.specs.Prelude.{slice_get}
use Rattle.std.proofs.lemmas.List.{append-nil, length-append, length-map}
use Rattle.cadence_errors.specs.declared.SinkError.{SinkError}
use Rattle.cadence_settings.specs.declared.call.Call.{Call}
use Rattle.cadence_schedule.specs.declared.steps.Step.TheVariants as step
use Rattle.cadence_schedule.specs.declared.steps.Reply.TheVariants as reply
use Rattle.cadence_schedule.specs.RunHistory.{Turn, with_answers, without_dropped, taken_count, left_count, exits, exit_by, outcomes}
use Rattle.cadence_schedule.specs.RunHistory.{outcome_by}
use Rattle.cadence_schedule.specs.RunHistory.{accepted, accepted_by_turn, undropped_lines, kept, kept_counts}
use Rattle.cadence_schedule.proofs.history.OneTurnMore.{accepted-push, outcomes-push, with_answers-longer, with_answers-some}
use Rattle.cadence_schedule.proofs.history.OneTurnMore.{with_answers-none, length-with_answers}
use Rattle.cadence_schedule.proofs.history.UndroppedLines.{exits-push, out, length-out, undropped_lines_is, undropped_lines-push}

module _ {A : Type 0} (line_of : Call A → Option (List ℕ)) where
  -- A turn that hands on no line does not change the kept lines.
  pub counts_same : (h : List (Turn A)) (t : Turn A) → outcome_by t ≡ [] → length (outcomes h) ≤ taken_count h → left_count h ≤ length (accepted line_of h)
      → kept_counts line_of (h ++ t ∷ []) ≡ kept_counts line_of h
  counts_same h t b handed within =
      let few : length (outcomes h) ≤ length (out line_of h) = omega (arith, handed, length-out line_of h within) in
      let (more, grown) = undropped_lines-push line_of h t within in
      (λ i. with_answers (grown i) ((outcomes-push h t ∙ ap (λ l. outcomes h ++ l) b ∙ append-nil (outcomes h)) i))
      ∙ with_answers-longer (out line_of h) more (outcomes h) few
      ∙ sym (with_answers-longer (out line_of h) (drop (left_count h) (accepted line_of h)) (outcomes h) few)
      ∙ ap (λ l. with_answers l (outcomes h)) (sym (undropped_lines_is line_of h))

  -- A turn that accepts no line, and in which no line leaves the queue, does not change the undropped lines.
  pub undropped_lines_same : (h : List (Turn A)) (t : Turn A) → accepted_by_turn line_of t ≡ [] → exit_by t ≡ []
      → undropped_lines line_of (h ++ t ∷ []) ≡ undropped_lines line_of h
  undropped_lines_same h t a e = λ i.
      without_dropped
      ((accepted-push line_of h t ∙ ap (λ l. accepted line_of h ++ l) a ∙ append-nil (accepted line_of h)) i)
      ((exits-push h t ∙ ap (λ l. exits h ++ l) e ∙ append-nil (exits h)) i)

  -- After a hand that returned `Ok`, the kept lines have one more: the line that was in hand.
  pub counts_more : (h : List (Turn A)) (n : ℕ) (line : List ℕ) → slice_get (undropped_lines line_of h) (length (outcomes h)) ≡ Some line
      → kept_counts line_of (h ++ (step.Hand, reply.Handed (Ok n)) ∷ []) ≡ kept_counts line_of h ++ (line, n) ∷ []
  counts_more h n line text =
      (λ i. with_answers (undropped_lines_same h (step.Hand, reply.Handed (Ok n)) refl refl i) (outcomes-push h (step.Hand, reply.Handed (Ok n)) i))
      ∙ with_answers-some (undropped_lines line_of h) (outcomes h) line n text

  pub counts_refused : (h : List (Turn A)) (e : SinkError) → kept_counts line_of (h ++ (step.Hand, reply.Handed (Err e)) ∷ []) ≡ kept_counts line_of h
  counts_refused h e =
      (λ i. with_answers (undropped_lines_same h (step.Hand, reply.Handed (Err e)) refl refl i) (outcomes-push h (step.Hand, reply.Handed (Err e)) i))
      ∙ with_answers-none (undropped_lines line_of h) (outcomes h)

  outcome_one : (t : Turn A) → length (outcome_by t) ≤ 1
  outcome_one (step.Hand, reply.Nothing) = zero-le
  outcome_one (step.Hand, reply.Handed (Ok n)) = omega arith
  outcome_one (step.Hand, reply.Handed (Err e)) = omega arith
  outcome_one (step.Hand, reply.Called r) = omega arith
  outcome_one (step.Hand, reply.CallDropped n m) = omega arith
  outcome_one (step.Hand, reply.Text n) = omega arith
  outcome_one (step.Hand, reply.Empty) = omega arith
  outcome_one (step.Hand, reply.Ended) = omega arith
  outcome_one (step.Hand, reply.Busy) = omega arith
  outcome_one (step.Hand, reply.Flushed r) = omega arith
  outcome_one (step.Hand, reply.Stopped) = omega arith
  outcome_one (step.Call call, r) = zero-le
  outcome_one (step.Take, r) = zero-le
  outcome_one (step.Flush, r) = zero-le
  outcome_one (step.Stop, r) = zero-le

  length-outcomes : (h : List (Turn A)) → length (outcomes h) ≤ length h
  length-outcomes [] = zero-le
  length-outcomes (t ∷ h) = omega (arith, length-append (outcome_by t) (outcomes h), outcome_one t, length-outcomes h)

  -- No more lines are kept than there were turns.
  pub length-kept : (h : List (Turn A)) → length (kept line_of h) ≤ length h
  length-kept h =
      omega (
        arith,
        length-map (kept_counts line_of h) (λ (k : List ℕ × ℕ). k.0),
        length-with_answers (undropped_lines line_of h) (outcomes h),
        length-outcomes h,
      )
