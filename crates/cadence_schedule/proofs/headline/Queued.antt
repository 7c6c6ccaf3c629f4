-- The replies, the queue and the hand after any turns are those that the history says, and the kept lines, the marks, the
-- refusals and the errors of what was given are those of the history.
use Rattle.std.proofs.Common.{◌≡◌, ℕ, ◌+◌, List, [], ◌∷◌, ◌++◌, Option, Some, None, Ok, Err, true, false, length, refl, sym, ap, ◌∙◌, subst, cond, arith, inl, inr}
use Rattle.std.specs.Prelude.{slice_get}
use Rattle.std.specs.List.{AllByRecursion}
use Rattle.std.proofs.lemmas.List.Concat.{flat_map-append}
use Rattle.std.proofs.lemmas.List.{append-nil, append_assoc, length-map}
use Rattle.cadence_flow.specs.Frame.{Format}
use Rattle.cadence_flow.specs.Writer.{WriterKind}
use Rattle.cadence_queue.specs.Queue.{at_capacity, drops_for_room}
use Rattle.cadence_queue.specs.declared.policy.QueuePolicy.{QueuePolicy}
use Rattle.cadence_settings.specs.declared.call.Call.{Call}
use Rattle.cadence_schedule.specs.Moves.{QueueState, Moves, Goes, at_start, given_in}
use Rattle.cadence_schedule.specs.Replies.{MayReply, MayReplyAfter}
use Rattle.cadence_schedule.specs.RunHistory.{Turn, accepted, accepted_by_turn, drops_text, error_count, is_error, is_stopped, kept, kept_counts, left_count}
use Rattle.cadence_schedule.specs.RunHistory.{mark_at, marks, outcome_by, refusal_at, refusals, stops, takes_text}
use Rattle.cadence_stage.specs.Call.{Flush, Line}
use Rattle.cadence_stage.specs.Call as stage
use Rattle.cadence_stage.specs.Past.{taken_by, taken_in}
use Rattle.cadence_schedule.specs.Calls.{errors_of, marks_from, refusals_from}
use Rattle.cadence_schedule.specs.declared.steps.Step.TheVariants as step
use Rattle.cadence_schedule.specs.declared.steps.Reply.TheVariants as reply
use Rattle.cadence_schedule.proofs.headline.ReplyCauses.{call_reply, nothing_waits, take_reply, hand_reply}
use Rattle.cadence_schedule.proofs.history.CallReplies.{call_accepts, call_drops}
use Rattle.cadence_schedule.proofs.history.KeptLines.{counts_same, counts_more, counts_refused}
use Rattle.cadence_schedule.proofs.history.OneTurnMore.{error_count-push, marks-push, refusals-push, replies-push}
use Rattle.cadence_schedule.proofs.history.QueueAndHand.{QueueAfter, full_hand, queue_call, queue_drop, queue_hand, queue_none, queue_stop, queue_take, quiet}
use Rattle.cadence_schedule.proofs.history.QueueAndHand.{slice_get-is}
use Rattle.cadence_schedule.proofs.packets.Refusing.{MayAnswer, more_errors}

each_split : {X : Type 0} (P : X → Type 0) (xs ys : List X) → AllByRecursion P (xs ++ ys) → AllByRecursion P xs × AllByRecursion P ys
each_split P [] ys h = (tt, h)
each_split P (x ∷ xs) ys (h, hs) = let (front, back) = each_split P xs ys hs in ((h, front), back)

marks_joined : (place : ℕ) (xs ys : List stage.Call) → marks_from place (xs ++ ys) ≡ marks_from place xs ++ marks_from (place + length (taken_in xs)) ys
marks_joined place [] ys = ap (λ n. marks_from n ys) (omega arith)
marks_joined place (Line line (Ok n) ∷ xs) ys =
    marks_joined (place + 1) xs ys ∙ ap (λ k. marks_from (place + 1) xs ++ marks_from k ys) (omega arith)
marks_joined place (Line line (Err e) ∷ xs) ys = marks_joined place xs ys
marks_joined place (Flush (Ok done) ∷ xs) ys = ap (λ ms. place ∷ ms) (marks_joined place xs ys)
marks_joined place (Flush (Err e) ∷ xs) ys = marks_joined place xs ys

refusals_joined : (place : ℕ) (xs ys : List stage.Call)
    → refusals_from place (xs ++ ys) ≡ refusals_from place xs ++ refusals_from (place + length (taken_in xs)) ys
refusals_joined place [] ys = ap (λ n. refusals_from n ys) (omega arith)
refusals_joined place (Line line (Ok n) ∷ xs) ys =
    refusals_joined (place + 1) xs ys ∙ ap (λ k. refusals_from (place + 1) xs ++ refusals_from k ys) (omega arith)
refusals_joined place (Line line (Err e) ∷ xs) ys = ap (λ ms. place ∷ ms) (refusals_joined place xs ys)
refusals_joined place (Flush result ∷ xs) ys = refusals_joined place xs ys

module _ {A : Type 0} (line_of : Call A → Option (List ℕ)) (kind : WriterKind) (format : Format) (queue : Option ℕ) (policy : QueuePolicy) where
  -- The history says what the replies, the queue and the hand are, and what of what was given was kept.
  pub record Queued (h : List (Turn A)) (s : QueueState) (given : List stage.Call) : Type 0 where
    pub replies : MayReplyAfter line_of kind.may_give kind.takes_whole format queue policy [] h
    pub line : QueueAfter line_of queue h s
    pub kept_is : taken_in given ≡ kept_counts line_of h
    pub marks_are : marks_from 0 given ≡ marks line_of h
    pub refusals_are : refusals_from 0 given ≡ refusals line_of h
    pub errors_are : length (errors_of given) ≡ error_count h

  -- a turn that gives this
  gives : (h : List (Turn A)) (t : Turn A) (s s' : QueueState) (given xs : List stage.Call) → Queued h s given → given_in t s.in_hand ≡ xs
      → MayReply line_of kind.may_give kind.takes_whole format queue policy h t → QueueAfter line_of queue (h ++ t ∷ []) s'
      → kept_counts line_of (h ++ t ∷ []) ≡ kept_counts line_of h ++ taken_in xs → ((n : ℕ) → mark_at line_of n t ≡ marks_from n xs)
      → ((n : ℕ) → refusal_at line_of n t ≡ refusals_from n xs) → ◌≡◌ {A = ℕ} (cond (is_error t) 1 0) (length (errors_of xs))
      → Queued (h ++ t ∷ []) s' (given ++ given_in t s.in_hand)
  gives h t s s' given xs a is reply line more mark refusal error =
      let place : 0 + length (taken_in given) ≡ length (kept line_of h) =
      omega (arith, ap (λ ks. length ks) a.kept_is, length-map (kept_counts line_of h) (λ (k : List ℕ × ℕ). k.0)) in
      subst (λ ys. Queued (h ++ t ∷ []) s' (given ++ ys)) (sym is) (record {
        replies = replies-push line_of kind.may_give kind.takes_whole format queue policy h t a.replies reply;
        line = line;
        kept_is = flat_map-append taken_by given xs ∙ ap (λ ks. ks ++ taken_in xs) a.kept_is ∙ sym more;
        marks_are = marks_joined 0 given xs ∙ (λ i. a.marks_are i ++ marks_from (place i) xs)
            ∙ ap (λ ms. marks line_of h ++ ms) (sym (mark (length (kept line_of h)))) ∙ sym (marks-push line_of h t);
        refusals_are = refusals_joined 0 given xs ∙ (λ i. a.refusals_are i ++ refusals_from (place i) xs)
            ∙ ap (λ ms. refusals line_of h ++ ms) (sym (refusal (length (kept line_of h)))) ∙ sym (refusals-push line_of h t);
        errors_are = omega (arith, more_errors given xs, a.errors_are, error, error_count-push h t);
      })

  -- A turn that hands on no line keeps the kept lines.
  keeps : (h : List (Turn A)) (t : Turn A) (s : QueueState) (given : List stage.Call) → Queued h s given → outcome_by t ≡ []
      → kept_counts line_of (h ++ t ∷ []) ≡ kept_counts line_of h ++ []
  keeps h t s given a b = counts_same line_of h t b a.line.handed_le a.line.within ∙ sym (append-nil (kept_counts line_of h))

  -- a turn that changes neither the queue nor the hand
  only_answers : (h : List (Turn A)) (t : Turn A) (s s' : QueueState) (given xs : List stage.Call) → s' ≡ s → Queued h s given → given_in t s.in_hand ≡ xs
      → MayReply line_of kind.may_give kind.takes_whole format queue policy h t → [] ≡ taken_in xs
      → accepted_by_turn line_of t ≡ [] → takes_text t ≡ false → drops_text t ≡ false → outcome_by t ≡ [] → stops t ≡ false
      → ((n : ℕ) → mark_at line_of n t ≡ marks_from n xs) → ((n : ℕ) → refusal_at line_of n t ≡ refusals_from n xs)
      → ◌≡◌ {A = ℕ} (cond (is_error t) 1 0) (length (errors_of xs)) → Queued (h ++ t ∷ []) s' (given ++ given_in t s.in_hand)
  only_answers h t s s' given xs same a is reply none x k d b z m r e =
      subst (λ u. Queued (h ++ t ∷ []) u (given ++ given_in t s.in_hand)) (sym same) (gives h t s s given xs a is reply
      (quiet line_of queue h t s x k d b z a.line) (keeps h t s given a b ∙ ap (λ ks. kept_counts line_of h ++ ks) none) m r e)

  -- Each turn keeps it.
  queued_turn : (h : List (Turn A)) (old : QueueState) (t : Turn A) (new : QueueState) (given : List stage.Call) → Queued h old given
      → AllByRecursion (MayAnswer kind format) (given_in t old.in_hand) → Moves line_of queue policy old t new
      → Queued (h ++ t ∷ []) new (given ++ given_in t old.in_hand)
  queued_turn h old (step.Call call, reply.Called (Err e)) new given a answers (answer, same) =
      only_answers h (step.Call call, reply.Called (Err e)) old new given [] same a refl
      (call_reply line_of kind format queue policy h old a.line call (reply.Called (Err e)) answer)
      refl refl refl refl refl refl (λ n. refl) (λ n. refl) refl
  queued_turn h old (step.Call call, reply.Called (Ok n)) new given a answers (answer, same) =
      let (line, line_is, running, free, long) =
      call_accepts (line_of call) old.stopped (at_capacity queue old.waiting) (drops_for_room policy old.waiting) n answer in
      subst (λ s. Queued (h ++ (step.Call call, reply.Called (Ok n)) ∷ []) s (given ++ [])) (sym same)
      (gives h (step.Call call, reply.Called (Ok n)) old _ given [] a refl
      (call_reply line_of kind format queue policy h old a.line call (reply.Called (Ok n)) answer)
      (queue_call line_of queue h call n line old line_is free a.line)
      (keeps h (step.Call call, reply.Called (Ok n)) old given a refl) (λ n. refl) (λ n. refl) refl)
  queued_turn h old (step.Call call, reply.CallDropped n m) new given a answers (answer, same) =
      let (line, oldest, line_is, drops) =
      call_drops (line_of call) old.stopped (at_capacity queue old.waiting) (drops_for_room policy old.waiting) n m answer in
      subst (λ s. Queued (h ++ (step.Call call, reply.CallDropped n m) ∷ []) s (given ++ [])) (sym same)
      (gives h (step.Call call, reply.CallDropped n m) old _ given [] a refl
      (call_reply line_of kind format queue policy h old a.line call (reply.CallDropped n m) answer)
      (queue_drop line_of queue policy h call n m line oldest old line_is drops a.line)
      (keeps h (step.Call call, reply.CallDropped n m) old given a refl) (λ n. refl) (λ n. refl) refl)
  queued_turn h old (step.Take, reply.Text n) new given a answers (none, front) =
      let (line, rest, waits, long, same) = front in
      subst (λ s. Queued (h ++ (step.Take, reply.Text n) ∷ []) s (given ++ [])) (sym same)
      (gives h (step.Take, reply.Text n) old _ given [] a refl
      (take_reply line_of kind format queue policy h None (Some line) (is_stopped h) (reply.Text n) (sym a.line.hand_is ∙ none)
      (slice_get-is (accepted line_of h) (left_count h) line rest (sym a.line.waiting_is ∙ waits)) refl (ap reply.Text long))
      (queue_take line_of queue h n line rest old a.line none waits)
      (keeps h (step.Take, reply.Text n) old given a refl) (λ n. refl) (λ n. refl) refl)
  queued_turn h old (step.Take, reply.Busy) new given a answers (some, same) =
      let (line, full) = some in
      only_answers h (step.Take, reply.Busy) old new given [] same a refl
      (take_reply line_of kind format queue policy h (Some line) (slice_get (accepted line_of h) (left_count h)) (is_stopped h) reply.Busy
      (sym a.line.hand_is ∙ full) refl refl refl) refl refl refl refl refl refl (λ n. refl) (λ n. refl) refl
  queued_turn h old (step.Take, reply.Ended) new given a answers (none, waits, ended, same) =
      only_answers h (step.Take, reply.Ended) old new given [] same a refl
      (take_reply line_of kind format queue policy h None None true reply.Ended (sym a.line.hand_is ∙ none)
      (nothing_waits line_of kind format queue policy h old a.line waits) (sym a.line.stopped_is ∙ ended) refl)
      refl refl refl refl refl refl (λ n. refl) (λ n. refl) refl
  queued_turn h old (step.Take, reply.Empty) new given a answers (none, waits, running, same) =
      only_answers h (step.Take, reply.Empty) old new given [] same a refl
      (take_reply line_of kind format queue policy h None None false reply.Empty (sym a.line.hand_is ∙ none)
      (nothing_waits line_of kind format queue policy h old a.line waits) (sym a.line.stopped_is ∙ running) refl)
      refl refl refl refl refl refl (λ n. refl) (λ n. refl) refl
  queued_turn h old (step.Hand, reply.Nothing) new given a answers (none, same) =
      only_answers h (step.Hand, reply.Nothing) old new given [] same a refl
      (hand_reply line_of kind format queue policy h old None reply.Nothing a.line none refl)
      refl refl refl refl refl refl (λ n. refl) (λ n. refl) refl
  queued_turn h old (step.Hand, reply.Handed (Ok n)) new given a answers (full, same) =
      let (line, some) = full in
      let (next, text) = full_hand line_of queue h old line a.line some in
      let is : given_in {A = A} (step.Hand, reply.Handed (Ok n)) old.in_hand ≡ Line line (Ok n) ∷ [] =
      ap (given_in {A = A} (step.Hand, reply.Handed (Ok n))) some in
      subst (λ s. Queued (h ++ (step.Hand, reply.Handed (Ok n)) ∷ []) s (given ++ given_in {A = A} (step.Hand, reply.Handed (Ok n)) old.in_hand)) (sym same)
      (gives h (step.Hand, reply.Handed (Ok n)) old _ given (Line line (Ok n) ∷ []) a is
      (hand_reply line_of kind format queue policy h old (Some line) (reply.Handed (Ok n)) a.line some
      (inl (n, (subst (AllByRecursion (MayAnswer kind format)) is answers).0, refl)))
      (queue_hand line_of queue h (step.Hand, reply.Handed (Ok n)) (Some n) line old refl refl refl refl refl a.line some)
      (counts_more line_of h n line text) (λ n. refl) (λ n. refl) refl)
  queued_turn h old (step.Hand, reply.Handed (Err e)) new given a answers (full, same) =
      let (line, some) = full in
      let is : given_in {A = A} (step.Hand, reply.Handed (Err e)) old.in_hand ≡ Line line (Err e) ∷ [] =
      ap (given_in {A = A} (step.Hand, reply.Handed (Err e))) some in
      subst (λ s. Queued (h ++ (step.Hand, reply.Handed (Err e)) ∷ []) s (given ++ given_in {A = A} (step.Hand, reply.Handed (Err e)) old.in_hand)) (sym same)
      (gives h (step.Hand, reply.Handed (Err e)) old _ given (Line line (Err e) ∷ []) a is
      (hand_reply line_of kind format queue policy h old (Some line) (reply.Handed (Err e)) a.line some
      (inr (e, (subst (AllByRecursion (MayAnswer kind format)) is answers).0, refl)))
      (queue_hand line_of queue h (step.Hand, reply.Handed (Err e)) None line old refl refl refl refl refl a.line some)
      (counts_refused line_of h e ∙ sym (append-nil (kept_counts line_of h))) (λ n. refl) (λ n. refl) refl)
  queued_turn h old (step.Flush, reply.Flushed (Ok done)) new given a answers same =
      only_answers h (step.Flush, reply.Flushed (Ok done)) old new given (Flush (Ok done) ∷ []) same a refl tt
      refl refl refl refl refl refl (λ n. refl) (λ n. refl) refl
  queued_turn h old (step.Flush, reply.Flushed (Err e)) new given a (cause, none) same =
      only_answers h (step.Flush, reply.Flushed (Err e)) old new given (Flush (Err e) ∷ []) same a refl cause
      refl refl refl refl refl refl (λ n. refl) (λ n. refl) refl
  queued_turn h old (step.Stop, reply.Stopped) new given a answers same =
      subst (λ s. Queued (h ++ (step.Stop, reply.Stopped) ∷ []) s (given ++ [])) (sym same)
      (gives h (step.Stop, reply.Stopped) old _ given [] a refl tt (queue_stop line_of queue h old a.line)
      (keeps h (step.Stop, reply.Stopped) old given a refl) (λ n. refl) (λ n. refl) refl)
  queued_turn h old t new given a answers move = absurd move

  -- All turns keep it.
  queued_all : (before turns : List (Turn A)) (old new : QueueState) (given more : List stage.Call) → Queued before old given
      → AllByRecursion (MayAnswer kind format) more → Goes line_of queue policy old turns more new → Queued (before ++ turns) new (given ++ more)
  queued_all before [] old new given more a answers (none, same) =
      subst (λ xs. Queued (before ++ []) new (given ++ xs)) (sym none)
      (subst (λ xs. Queued (before ++ []) new xs) (sym (append-nil given))
      (subst (λ h. Queued h new given) (sym (append-nil before)) (subst (λ s. Queued before s given) (sym same) a)))
  queued_all before (t ∷ turns) old new given more a answers (mid, rest, are, first, later) =
      let (now, then) = each_split (MayAnswer kind format) (given_in t old.in_hand) rest (subst (AllByRecursion (MayAnswer kind format)) are answers) in
      subst (λ xs. Queued (before ++ t ∷ turns) new (given ++ xs)) (sym are)
      (subst (λ xs. Queued (before ++ t ∷ turns) new xs) (append_assoc given (given_in t old.in_hand) rest)
      (subst (λ h. Queued h new ((given ++ given_in t old.in_hand) ++ rest)) (append_assoc before (t ∷ []) turns)
      (queued_all (before ++ t ∷ []) turns mid new (given ++ given_in t old.in_hand) rest (queued_turn before old t mid given a now first) then later)))

  -- It holds of all turns from the first on.
  pub queued : (turns : List (Turn A)) (new : QueueState) (given : List stage.Call) → AllByRecursion (MayAnswer kind format) given
      → Goes line_of queue policy at_start turns given new → Queued turns new given
  queued turns new given answers goes =
      queued_all [] turns at_start new [] given
      (record { replies = tt; line = queue_none line_of queue; kept_is = refl; marks_are = refl; refusals_are = refl; errors_are = refl }) answers goes
