-- What one turn more adds to each word of a history.
use Rattle.std.proofs.Common.{◌≡◌, ℕ, zero-le, ◌+◌, ◌≤◌, List, [], ◌∷◌, ◌++◌, Option, Some, None, Bool, true, false, length, refl, sym, ap}
use Rattle.std.proofs.Common.{◌∙◌, arith, subst, cond, ◌||◌}
use Rattle.std.specs.Prelude.{map, slice_get}
use Rattle.std.specs.List.{flat_map}
use Rattle.std.proofs.lemmas.List.{append-nil, append_assoc, map-append}
use Rattle.std.proofs.lemmas.List.Concat.{flat_map-append}
use Rattle.std.proofs.lemmas.List.Sums.{sum_by_push}
use Rattle.std.proofs.lemmas.List.Folds.{list_any-append}
use Rattle.cadence_flow.specs.Frame.{Format}
use Rattle.cadence_queue.specs.declared.policy.QueuePolicy.{QueuePolicy}
use Rattle.cadence_errors.specs.declared.SinkError.{SinkError}
use Rattle.cadence_settings.specs.declared.call.Call.{Call}
use Rattle.cadence_schedule.specs.RunHistory.{Turn, with_answers, taken_count, takes_text, dropped_count, drops_text, outcomes, outcome_by, stops}
use Rattle.cadence_schedule.specs.RunHistory.{is_stopped, error_count, is_error, accepted, accepted_by_turn, kept, marks, mark_at}
use Rattle.cadence_schedule.specs.RunHistory.{refusals, refusal_at, with_before}
use Rattle.cadence_schedule.specs.Replies.{MayReply, MayReplyAfter}

pub or_no : (b : Bool) → (b || false) ≡ b
or_no true = refl
or_no false = refl

-- Elements after those that got an answer make no difference.
pub with_answers-longer : {X Y : Type 0} (xs more : List X) (answers : List (Option Y)) → length answers ≤ length xs
    → with_answers (xs ++ more) answers ≡ with_answers xs answers
with_answers-longer [] [] answers h = refl
with_answers-longer [] (m ∷ more) [] h = refl
with_answers-longer [] (m ∷ more) (a ∷ answers) h = absurd (omega arith)
with_answers-longer (x ∷ xs) more [] h = refl
with_answers-longer (x ∷ xs) more (Some y ∷ answers) h = ap (λ l. (x, y) ∷ l) (with_answers-longer xs more answers (omega arith))
with_answers-longer (x ∷ xs) more (None ∷ answers) h = with_answers-longer xs more answers (omega arith)

with_answers-nil : {X Y : Type 0} (xs : List X) → with_answers {X = X} {Y = Y} xs [] ≡ []
with_answers-nil [] = refl
with_answers-nil (x ∷ xs) = refl

-- If the next element gets an answer, it is one more element with an answer.
pub with_answers-some : {X Y : Type 0} (xs : List X) (answers : List (Option Y)) (x : X) (y : Y) → slice_get xs (length answers) ≡ Some x
    → with_answers xs (answers ++ Some y ∷ []) ≡ with_answers xs answers ++ (x, y) ∷ []
with_answers-some [] answers x y e = absurd cc
with_answers-some (z ∷ xs) [] x y e = let same : z ≡ x = cc in λ i. (same i, y) ∷ with_answers-nil xs i
with_answers-some (z ∷ xs) (Some w ∷ answers) x y e = ap (λ l. (z, w) ∷ l) (with_answers-some xs answers x y e)
with_answers-some (z ∷ xs) (None ∷ answers) x y e = with_answers-some xs answers x y e

pub with_answers-none : {X Y : Type 0} (xs : List X) (answers : List (Option Y)) → with_answers xs (answers ++ None ∷ []) ≡ with_answers xs answers
with_answers-none [] answers = refl
with_answers-none (x ∷ xs) [] = with_answers-nil xs
with_answers-none (x ∷ xs) (Some y ∷ answers) = ap (λ l. (x, y) ∷ l) (with_answers-none xs answers)
with_answers-none (x ∷ xs) (None ∷ answers) = with_answers-none xs answers

-- No more elements have an answer than there are answers.
pub length-with_answers : {X Y : Type 0} (xs : List X) (answers : List (Option Y)) → length (with_answers xs answers) ≤ length answers
length-with_answers [] answers = zero-le
length-with_answers (x ∷ xs) [] = zero-le
length-with_answers (x ∷ xs) (Some y ∷ answers) = omega (arith, length-with_answers xs answers)
length-with_answers (x ∷ xs) (None ∷ answers) = omega (arith, length-with_answers xs answers)

-- One element more has all others before it.
with_before-push : {X : Type 0} (xs : List X) (x : X) → with_before (xs ++ x ∷ []) ≡ with_before xs ++ (xs, x) ∷ []
with_before-push [] x = refl
with_before-push (y ∷ xs) x =
    ap (λ l. ([], y) ∷ map (λ p. (y ∷ p.0, p.1)) l) (with_before-push xs x)
    ∙ ap (λ l. ([], y) ∷ l) (map-append (λ p. (y ∷ p.0, p.1)) (with_before xs) ((xs, x) ∷ []))

before-push : {X Y : Type 0} (f : List X × X → List Y) (xs : List X) (x : X)
    → flat_map f (with_before (xs ++ x ∷ [])) ≡ flat_map f (with_before xs) ++ flat_map f ((xs, x) ∷ [])
before-push f xs x = ap (flat_map f) (with_before-push xs x) ∙ flat_map-append f (with_before xs) ((xs, x) ∷ [])

module _ {A : Type 0} where
  pub outcomes-push : (h : List (Turn A)) (t : Turn A) → outcomes (h ++ t ∷ []) ≡ outcomes h ++ outcome_by t
  outcomes-push h t = flat_map-append outcome_by h (t ∷ []) ∙ ap (λ l. outcomes h ++ l) (append-nil (outcome_by t))

  pub taken_count-push : (h : List (Turn A)) (t : Turn A) → taken_count (h ++ t ∷ []) ≡ taken_count h + cond (takes_text t) 1 0
  taken_count-push h t = sum_by_push (λ u. cond (takes_text u) 1 0) h t

  pub dropped_count-push : (h : List (Turn A)) (t : Turn A) → dropped_count (h ++ t ∷ []) ≡ dropped_count h + cond (drops_text t) 1 0
  dropped_count-push h t = sum_by_push (λ u. cond (drops_text u) 1 0) h t

  pub error_count-push : (h : List (Turn A)) (t : Turn A) → error_count (h ++ t ∷ []) ≡ error_count h + cond (is_error t) 1 0
  error_count-push h t = sum_by_push (λ u. cond (is_error u) 1 0) h t

  pub stopped-push : (h : List (Turn A)) (t : Turn A) → is_stopped (h ++ t ∷ []) ≡ is_stopped h || stops t
  stopped-push h t = list_any-append stops h (t ∷ []) ∙ ap (λ b. is_stopped h || b) (or_no (stops t))

module _ {A : Type 0} (line_of : Call A → Option (List ℕ)) where
  pub accepted-push : (h : List (Turn A)) (t : Turn A) → accepted line_of (h ++ t ∷ []) ≡ accepted line_of h ++ accepted_by_turn line_of t
  accepted-push h t = flat_map-append (accepted_by_turn line_of) h (t ∷ []) ∙ ap (λ l. accepted line_of h ++ l) (append-nil (accepted_by_turn line_of t))

  pub marks-push : (h : List (Turn A)) (t : Turn A) → marks line_of (h ++ t ∷ []) ≡ marks line_of h ++ mark_at line_of (length (kept line_of h)) t
  marks-push h t =
      before-push (λ p. mark_at line_of (length (kept line_of p.0)) p.1) h t
      ∙ ap (λ l. marks line_of h ++ l) (append-nil (mark_at line_of (length (kept line_of h)) t))

  pub refusals-push : (h : List (Turn A)) (t : Turn A)
      → refusals line_of (h ++ t ∷ []) ≡ refusals line_of h ++ refusal_at line_of (length (kept line_of h)) t
  refusals-push h t =
      before-push (λ p. refusal_at line_of (length (kept line_of p.0)) p.1) h t
      ∙ ap (λ l. refusals line_of h ++ l) (append-nil (refusal_at line_of (length (kept line_of h)) t))

  module _ (may_give : SinkError → Bool) (takes_whole : Bool) (format : Format) (queue : Option ℕ) (policy : QueuePolicy) where
    replies-push-after : (before h : List (Turn A)) (t : Turn A) → MayReplyAfter line_of may_give takes_whole format queue policy before h
        → MayReply line_of may_give takes_whole format queue policy (before ++ h) t
        → MayReplyAfter line_of may_give takes_whole format queue policy before (h ++ t ∷ [])
    replies-push-after before [] t old new = (subst (λ b. MayReply line_of may_give takes_whole format queue policy b t) (append-nil before) new, tt)
    replies-push-after before (u ∷ h) t (first, old) new = (
      first,
      replies-push-after (before ++ u ∷ []) h t old (subst (λ b. MayReply line_of may_give takes_whole format queue policy b t)
          (sym (append_assoc before (u ∷ []) h)) new),
    )

    pub replies-push : (h : List (Turn A)) (t : Turn A) → MayReplyAfter line_of may_give takes_whole format queue policy [] h
        → MayReply line_of may_give takes_whole format queue policy h t
        → MayReplyAfter line_of may_give takes_whole format queue policy [] (h ++ t ∷ [])
    replies-push h t old new = replies-push-after [] h t old new
