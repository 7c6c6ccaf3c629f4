-- The queue and the hand after any turns are those that the history says.
use Rattle.std.proofs.Common.{◌≡◌, ℕ, zero, suc, zero-le, ◌+◌, ◌%◌, ◌^◌, ◌<◌, ◌≤◌, List, [], ◌∷◌, ◌++◌, Option, Some, None, Ok, Bool}
use Rattle.std.proofs.Common.{true, false, length, drop, refl, sym, ap, ◌∙◌, arith, subst, cond, ◌||◌, ⊎_elim}
use Rattle.std.specs.Prelude.{slice_get, ◌==◌}
use Rattle.std.specs.Option.{option_to_list}
use Rattle.std.proofs.lemmas.List.{append-nil, length-append, drop-append-le, drop_at}
use Rattle.std.proofs.lemmas.Bool.{cases_lt, cond-true, cond-false, eq-eqb, ne_eqb, leb-false}
use Rattle.cadence_queue.specs.Queue.{at_capacity, drops_for_room}
use Rattle.cadence_queue.specs.declared.policy.QueuePolicy.{QueuePolicy}
use Rattle.cadence_queue.specs.declared.policy.QueuePolicy.TheVariants.{Refuse, DropOldest}
use Rattle.cadence_queue.specs.QueueState.{IsWithin}
use Rattle.cadence_settings.specs.declared.call.Call.{Call}
use Rattle.cadence_schedule.specs.declared.steps.Step.TheVariants as step
use Rattle.cadence_schedule.specs.declared.steps.Reply.TheVariants as reply
use Rattle.cadence_schedule.specs.RunHistory.{Turn, taken_count, takes_text, dropped_count, drops_text, left_count, outcomes, outcome_by}
use Rattle.cadence_schedule.specs.RunHistory.{stops, is_stopped, accepted, accepted_by_turn, undropped_lines, in_hand}
use Rattle.cadence_schedule.specs.Moves.{QueueState, at_start}
use Rattle.cadence_schedule.proofs.history.OneTurnMore.{or_no, accepted-push, outcomes-push, taken_count-push, dropped_count-push, stopped-push}
use Rattle.cadence_schedule.proofs.history.UndroppedLines.{out, length-out, undropped_lines_is, undropped_lines-push, undropped_lines-take}

or_yes : (b : Bool) → (b || true) ≡ true
or_yes true = refl
or_yes false = refl

slice_get_some : {X : Type 0} (xs : List X) (i : ℕ) → i < length xs → slice_get xs i ≡ None → ⊥
slice_get_some [] i h e = absurd (omega arith)
slice_get_some (x ∷ xs) zero h e = absurd cc
slice_get_some (x ∷ xs) (suc i) h e = slice_get_some xs i (omega arith) e

slice_get_front : {X : Type 0} (xs ys : List X) (i : ℕ) → i < length xs → slice_get (xs ++ ys) i ≡ slice_get xs i
slice_get_front [] ys i h = absurd (omega arith)
slice_get_front (x ∷ xs) ys zero h = refl
slice_get_front (x ∷ xs) ys (suc i) h = slice_get_front xs ys i (omega arith)

pub slice_get-is : {X : Type 0} (xs : List X) (i : ℕ) (x : X) (rest : List X) → drop i xs ≡ x ∷ rest → slice_get xs i ≡ Some x
slice_get-is [] zero x rest e = absurd cc
slice_get-is [] (suc i) x rest e = absurd cc
slice_get-is (y ∷ xs) zero x rest e = let same : y ≡ x = cc in ap Some same
slice_get-is (y ∷ xs) (suc i) x rest e = slice_get-is xs i x rest e

drop-is : {X : Type 0} (xs : List X) (i : ℕ) (x : X) (rest : List X) → drop i xs ≡ x ∷ rest → (i < length xs) × (drop (i + 1) xs ≡ rest)
drop-is [] zero x rest e = absurd cc
drop-is [] (suc i) x rest e = absurd cc
drop-is (y ∷ xs) zero x rest e = let same : xs ≡ rest = cc in (omega arith, same)
drop-is (y ∷ xs) (suc i) x rest e = let (short, tail) = drop-is xs i x rest e in (omega arith, ap (λ k. drop k (y ∷ xs)) (suc_add i) ∙ tail)
  where
    suc_add : (i : ℕ) → suc i + 1 ≡ suc (i + 1)
    suc_add i = omega arith

-- A line that is dropped is the oldest one.
drops_first : (policy : QueuePolicy) (waiting : List (List ℕ)) (oldest : List ℕ) → drops_for_room policy waiting ≡ Some oldest
    → waiting ≡ oldest ∷ drop 1 waiting
drops_first Refuse waiting oldest e = absurd cc
drops_first DropOldest [] oldest e = absurd cc
drops_first DropOldest (x ∷ waiting) oldest e = let same : x ≡ oldest = cc in ap (λ y. y ∷ waiting) same

-- An element of the first part of a list does not depend on what comes after that part.
same_front : {X : Type 0} (xs ys zs : List X) (i : ℕ) → i < length xs → slice_get (xs ++ ys) i ≡ slice_get (xs ++ zs) i
same_front xs ys zs i h = slice_get_front xs ys i h ∙ sym (slice_get_front xs zs i h)

-- A queue that is not full is still within its capacity with one line more.
within_more : (queue : Option ℕ) (waiting : List (List ℕ)) (line : List ℕ) → IsWithin queue waiting → at_capacity queue waiting ≡ false
    → IsWithin queue (waiting ++ line ∷ [])
within_more None waiting line within room = tt
within_more (Some capacity) waiting line within room = omega (arith, leb-false capacity (length waiting) room, length-append waiting (line ∷ []))

-- A queue is still within its capacity with one line in place of another.
within_other : (queue : Option ℕ) (line oldest : List ℕ) (rest : List (List ℕ)) → IsWithin queue (oldest ∷ rest) → IsWithin queue (rest ++ line ∷ [])
within_other None line oldest rest within = tt
within_other (Some capacity) line oldest rest within = omega (arith, within, length-append rest (line ∷ []))

within_less : (queue : Option ℕ) (line : List ℕ) (rest : List (List ℕ)) → IsWithin queue (line ∷ rest) → IsWithin queue rest
within_less None line rest within = tt
within_less (Some capacity) line rest within = omega arith

module _ {A : Type 0} (line_of : Call A → Option (List ℕ)) (queue : Option ℕ) where
  pub record QueueAfter (h : List (Turn A)) (s : QueueState) : Type 0 where
    pub handed_le : length (outcomes h) ≤ taken_count h
    pub ahead : taken_count h ≤ length (outcomes h) + 1
    pub within : left_count h ≤ length (accepted line_of h)
    pub waiting_is : s.waiting ≡ drop (left_count h) (accepted line_of h)
    pub hand_is : s.in_hand ≡ in_hand line_of h
    pub stopped_is : s.stopped ≡ is_stopped h
    pub submitted_is : s.submitted ≡ length (accepted line_of h) % 2 ^ 64
    pub drained_is : s.drained ≡ taken_count h % 2 ^ 64
    pub dropped_is : s.dropped ≡ dropped_count h % 2 ^ 64
    pub room : IsWithin queue s.waiting

  -- The second history says this much more than the first: these lines are accepted, `handed` lines are handed on,
  -- `taken` lines are taken, `dropped` lines are dropped, and the queue is stopped if `stop` is true.
  record Grows (h h' : List (Turn A)) (lines : List (List ℕ)) (handed taken dropped : ℕ) (stop : Bool) : Type 0 where
    accepted_is : accepted line_of h' ≡ accepted line_of h ++ lines
    length_is : length (accepted line_of h') ≡ length (accepted line_of h) + length lines
    handed_is : length (outcomes h') ≡ length (outcomes h) + handed
    taken_is : taken_count h' ≡ taken_count h + taken
    dropped_is : dropped_count h' ≡ dropped_count h + dropped
    left_is : left_count h' ≡ left_count h + (taken + dropped)
    stopped_is : is_stopped h' ≡ (is_stopped h || stop)

  grows : (h : List (Turn A)) (t : Turn A) (lines : List (List ℕ)) (answers : List (Option ℕ)) (taken dropped stop : Bool)
      → accepted_by_turn line_of t ≡ lines → outcome_by t ≡ answers → takes_text t ≡ taken → drops_text t ≡ dropped → stops t ≡ stop
      → Grows h (h ++ t ∷ []) lines (length answers) (cond taken 1 0) (cond dropped 1 0) stop
  grows h t lines answers taken dropped stop a b k d z =
      let accepts : accepted line_of (h ++ t ∷ []) ≡ accepted line_of h ++ lines = accepted-push line_of h t ∙ ap (λ l. accepted line_of h ++ l) a in
      let takes : taken_count (h ++ t ∷ []) ≡ taken_count h + cond taken 1 0 = taken_count-push h t ∙ ap (λ v. taken_count h + cond v 1 0) k in
      let drops : dropped_count (h ++ t ∷ []) ≡ dropped_count h + cond dropped 1 0 =
      dropped_count-push h t ∙ ap (λ v. dropped_count h + cond v 1 0) d in
      record {
        accepted_is = accepts;
        length_is = ap (λ l. length l) accepts ∙ length-append (accepted line_of h) lines;
        handed_is = ap (λ l. length l) (outcomes-push h t ∙ ap (λ l. outcomes h ++ l) b) ∙ length-append (outcomes h) answers;
        taken_is = takes;
        dropped_is = drops;
        left_is = omega (arith, takes, drops);
        stopped_is = stopped-push h t ∙ ap (λ v. is_stopped h || v) z;
      }

  -- At least as many lines were not dropped as were taken.
  long : (h : List (Turn A)) → left_count h ≤ length (accepted line_of h) → taken_count h ≤ length (undropped_lines line_of h)
  long h within =
      omega (
        arith,
        length-out line_of h within,
        ap (λ l. length l) (undropped_lines_is line_of h),
        length-append (out line_of h)
            (drop (left_count h) (accepted line_of h)),
      )

  -- If one more line was taken than handed on, the next undropped line is in hand.
  hand_when : (h : List (Turn A)) → taken_count h ≡ length (outcomes h) + 1 → in_hand line_of h ≡ slice_get (undropped_lines line_of h) (length (outcomes h))
  hand_when h e =
      cond-true (taken_count h == length (outcomes h) + 1) (slice_get (undropped_lines line_of h) (length (outcomes h))) None
      (eq-eqb (taken_count h) (length (outcomes h) + 1) e)

  hand_else : (h : List (Turn A)) → taken_count h ≤ length (outcomes h) → in_hand line_of h ≡ None
  hand_else h none =
      cond-false (taken_count h == length (outcomes h) + 1) (slice_get (undropped_lines line_of h) (length (outcomes h))) None
      (ne_eqb (taken_count h) (length (outcomes h) + 1) (λ e. absurd (omega arith)))

  -- A turn by which nothing is taken or handed on leaves the hand as it is.
  hand_same : (h : List (Turn A)) (t : Turn A) → taken_count h ≤ length (outcomes h) + 1 → left_count h ≤ length (accepted line_of h)
      → taken_count (h ++ t ∷ []) ≡ taken_count h → length (outcomes (h ++ t ∷ [])) ≡ length (outcomes h)
      → in_hand line_of h ≡ in_hand line_of (h ++ t ∷ [])
  hand_same h t ahead within same handed =
      ⊎_elim
      (λ (more : length (outcomes h) < taken_count h). let next : taken_count h ≡ length (outcomes h) + 1 = omega (arith, ahead) in
      let (rest, grown) = undropped_lines-push line_of h t within in
      hand_when h next ∙ ap (λ l. slice_get l (length (outcomes h))) (undropped_lines_is line_of h)
      ∙ same_front (out line_of h) (drop (left_count h) (accepted line_of h)) rest (length (outcomes h)) (omega (arith, length-out line_of h within))
      ∙ (λ i. slice_get (sym grown i) (sym handed i)) ∙ sym (hand_when (h ++ t ∷ []) (omega (arith, same, handed, next))))
      (λ (none : taken_count h ≤ length (outcomes h)). hand_else h none ∙ sym (hand_else (h ++ t ∷ []) (omega (arith, same, handed))))
      (cases_lt (length (outcomes h)) (taken_count h))

  -- If the hand is empty, as many lines were handed on as were taken.
  pub empty_hand : (h : List (Turn A)) (s : QueueState) → QueueAfter h s → s.in_hand ≡ None → taken_count h ≡ length (outcomes h)
  empty_hand h s q e =
      ⊎_elim
      (λ (more : length (outcomes h) < taken_count h). absurd (slice_get_some (undropped_lines line_of h) (length (outcomes h)) (omega (arith, long h q.within))
      (sym (hand_when h (omega (arith, q.ahead)))
      ∙ sym q.hand_is ∙ e)))
      (λ (none : taken_count h ≤ length (outcomes h)). let goal : taken_count h ≡ length (outcomes h) = omega (arith, q.handed_le) in goal)
      (cases_lt (length (outcomes h)) (taken_count h))

  -- If a line is in hand, it is the next undropped line after those that were handed on.
  pub full_hand : (h : List (Turn A)) (s : QueueState) (line : List ℕ) → QueueAfter h s → s.in_hand ≡ Some line
      → (taken_count h ≡ length (outcomes h) + 1) × (slice_get (undropped_lines line_of h) (length (outcomes h)) ≡ Some line)
  full_hand h s line q e =
      ⊎_elim
      (λ (more : length (outcomes h) < taken_count h). let next : taken_count h ≡ length (outcomes h) + 1 = omega (arith, q.ahead) in (
        next,
        sym (hand_when h next)
            ∙ sym q.hand_is ∙ e,
      ))
      (λ (none : taken_count h ≤ length (outcomes h)). absurd (let bad : ◌≡◌ {A = Option (List ℕ)} None (Some line) = sym (hand_else h none)
      ∙ sym q.hand_is ∙ e in cc))
      (cases_lt (length (outcomes h)) (taken_count h))

  -- The queue and the hand stay right after a turn that accepts, takes, drops, hands on and stops nothing.
  pub quiet : (h : List (Turn A)) (t : Turn A) (s : QueueState) → accepted_by_turn line_of t ≡ [] → takes_text t ≡ false → drops_text t ≡ false
      → outcome_by t ≡ [] → stops t ≡ false → QueueAfter h s → QueueAfter (h ++ t ∷ []) s
  quiet h t s a k d b z q =
      let w : Grows h (h ++ t ∷ []) [] 0 0 0 false = grows h t [] [] false false false a b k d z in
      let accepted_same : accepted line_of (h ++ t ∷ []) ≡ accepted line_of h = w.accepted_is ∙ append-nil (accepted line_of h) in
      let left_same : left_count (h ++ t ∷ []) ≡ left_count h = omega (arith, w.left_is) in
      record {
        handed_le = omega (arith, q.handed_le, w.handed_is, w.taken_is);
        ahead = omega (arith, q.ahead, w.handed_is, w.taken_is);
        within = omega (arith, q.within, w.length_is, left_same);
        waiting_is = q.waiting_is ∙ (λ i. drop (sym left_same i) (sym accepted_same i));
        hand_is = q.hand_is ∙ hand_same h t q.ahead q.within (omega (arith, w.taken_is)) (omega (arith, w.handed_is));
        stopped_is = q.stopped_is ∙ sym (w.stopped_is ∙ or_no (is_stopped h));
        submitted_is = q.submitted_is ∙ ap (λ l. length l % 2 ^ 64) (sym accepted_same);
        drained_is = omega (arith, q.drained_is, w.taken_is);
        dropped_is = omega (arith, q.dropped_is, w.dropped_is);
        room = q.room;
      }

  -- The queue and the hand stay right after a call that is accepted by a queue that is not full.
  pub queue_call : (h : List (Turn A)) (call : Call A) (n : ℕ) (line : List ℕ) (s : QueueState) → line_of call ≡ Some line
      → at_capacity queue s.waiting ≡ false → QueueAfter h s
      → QueueAfter (h ++ (step.Call call, reply.Called (Ok n)) ∷ []) (record
      s { waiting = s.waiting ++ option_to_list (line_of call); submitted = (s.submitted + 1) % 2 ^ 64 })
  queue_call h call n line s e free q =
      let one : option_to_list (line_of call) ≡ line ∷ [] = ap option_to_list e in
      let w : Grows h (h ++ (step.Call call, reply.Called (Ok n)) ∷ []) (line ∷ []) 0 0 0 false =
      grows h (step.Call call, reply.Called (Ok n)) (line ∷ []) [] false false false one refl refl refl refl in
      let left_same : left_count (h ++ (step.Call call, reply.Called (Ok n)) ∷ []) ≡ left_count h = omega (arith, w.left_is) in
      record {
        handed_le = omega (arith, q.handed_le, w.handed_is, w.taken_is);
        ahead = omega (arith, q.ahead, w.handed_is, w.taken_is);
        within = omega (arith, q.within, w.length_is, left_same);
        waiting_is = (λ i. q.waiting_is i ++ one i) ∙ sym (drop-append-le (left_count h) (accepted line_of h) (line ∷ []) q.within)
            ∙ (λ i. drop (sym left_same i) (sym w.accepted_is i));
        hand_is = q.hand_is ∙ hand_same h (step.Call call, reply.Called (Ok n)) q.ahead q.within (omega (arith, w.taken_is))
            (omega (arith, w.handed_is));
        stopped_is = q.stopped_is ∙ sym (w.stopped_is ∙ or_no (is_stopped h));
        submitted_is = omega (arith, q.submitted_is, w.length_is);
        drained_is = omega (arith, q.drained_is, w.taken_is);
        dropped_is = omega (arith, q.dropped_is, w.dropped_is);
        room = subst (λ w. IsWithin queue (s.waiting ++ w)) (sym one) (within_more queue s.waiting line q.room free);
      }

  -- The queue and the hand stay right after a call that is accepted by a full queue, which drops its oldest line.
  pub queue_drop : (policy : QueuePolicy) (h : List (Turn A)) (call : Call A) (n m : ℕ) (line oldest : List ℕ) (s : QueueState)
      → line_of call ≡ Some line → drops_for_room policy s.waiting ≡ Some oldest → QueueAfter h s
      → QueueAfter (h ++ (step.Call call, reply.CallDropped n m) ∷ [])
      (record s {
        waiting = drop 1 s.waiting ++ option_to_list (line_of call);
        submitted = (s.submitted + 1) % 2 ^ 64;
        dropped = (s.dropped + 1) % 2 ^ 64;
      })
  queue_drop policy h call n m line oldest s e drops q =
      let one : option_to_list (line_of call) ≡ line ∷ [] = ap option_to_list e in
      let front : s.waiting ≡ oldest ∷ drop 1 s.waiting = drops_first policy s.waiting oldest drops in
      let shown : drop (left_count h) (accepted line_of h) ≡ oldest ∷ drop 1 s.waiting = sym q.waiting_is ∙ front in
      let (short, tail) = drop-is (accepted line_of h) (left_count h) oldest (drop 1 s.waiting) shown in
      let w : Grows h (h ++ (step.Call call, reply.CallDropped n m) ∷ []) (line ∷ []) 0 0 1 false =
      grows h (step.Call call, reply.CallDropped n m) (line ∷ []) [] false true false one refl refl refl refl in
      let left_is : left_count (h ++ (step.Call call, reply.CallDropped n m) ∷ []) ≡ left_count h + 1 = omega (arith, w.left_is) in
      let next : left_count h + 1 ≤ length (accepted line_of h) = omega (arith, short) in
      record {
        handed_le = omega (arith, q.handed_le, w.handed_is, w.taken_is);
        ahead = omega (arith, q.ahead, w.handed_is, w.taken_is);
        within = omega (arith, short, w.length_is, left_is);
        waiting_is = (λ i. sym tail i ++ one i) ∙ sym (drop-append-le (left_count h + 1) (accepted line_of h) (line ∷ []) next)
            ∙ (λ i. drop (sym left_is i) (sym w.accepted_is i));
        hand_is = q.hand_is ∙ hand_same h (step.Call call, reply.CallDropped n m) q.ahead q.within (omega (arith, w.taken_is))
            (omega (arith, w.handed_is));
        stopped_is = q.stopped_is ∙ sym (w.stopped_is ∙ or_no (is_stopped h));
        submitted_is = omega (arith, q.submitted_is, w.length_is);
        drained_is = omega (arith, q.drained_is, w.taken_is);
        dropped_is = omega (arith, q.dropped_is, w.dropped_is);
        room =
            subst (λ w. IsWithin queue (drop 1 s.waiting ++ w)) (sym one)
            (within_other queue line oldest (drop 1 s.waiting) (subst (λ w. IsWithin queue w) front q.room));
      }

  -- A line that was taken with an empty hand is the next one to be handed on.
  text_taken : (h : List (Turn A)) (n : ℕ) (line : List ℕ) (rest : List (List ℕ)) → left_count h ≤ length (accepted line_of h)
      → drop (left_count h) (accepted line_of h) ≡ line ∷ rest → taken_count h ≡ length (outcomes h)
      → slice_get (undropped_lines line_of (h ++ (step.Take, reply.Text n) ∷ [])) (length (outcomes h)) ≡ Some line
  text_taken h n line rest within shown equal =
      let split : undropped_lines line_of (h ++ (step.Take, reply.Text n) ∷ []) ≡ out line_of h ++ line ∷ rest = undropped_lines-take line_of h n
      ∙ undropped_lines_is line_of h ∙ ap (λ l. out line_of h ++ l) shown in
      let place : length (outcomes h) ≡ length (out line_of h) = sym equal ∙ sym (length-out line_of h within) in
      (λ i. slice_get (split i) (place i))
      ∙ slice_get-is (out line_of h ++ line ∷ rest) (length (out line_of h)) line rest
      (drop_at (out line_of h) (line ∷ rest) (length (out line_of h)) refl)

  -- The queue and the hand stay right after a take that gets a line.
  pub queue_take : (h : List (Turn A)) (n : ℕ) (line : List ℕ) (rest : List (List ℕ)) (s : QueueState) → QueueAfter h s → s.in_hand ≡ None
      → s.waiting ≡ line ∷ rest
      → QueueAfter (h ++ (step.Take, reply.Text n) ∷ []) (record s { waiting = rest; drained = (s.drained + 1) % 2 ^ 64; in_hand = Some line })
  queue_take h n line rest s q none front =
      let w : Grows h (h ++ (step.Take, reply.Text n) ∷ []) [] 0 1 0 false =
      grows h (step.Take, reply.Text n) [] [] true false false refl refl refl refl refl in
      let accepted_same : accepted line_of (h ++ (step.Take, reply.Text n) ∷ []) ≡ accepted line_of h =
      w.accepted_is ∙ append-nil (accepted line_of h) in
      let left_is : left_count (h ++ (step.Take, reply.Text n) ∷ []) ≡ left_count h + 1 = omega (arith, w.left_is) in
      let handed_same : length (outcomes (h ++ (step.Take, reply.Text n) ∷ [])) ≡ length (outcomes h) = omega (arith, w.handed_is) in
      let equal : taken_count h ≡ length (outcomes h) = empty_hand h s q none in
      let shown : drop (left_count h) (accepted line_of h) ≡ line ∷ rest = sym q.waiting_is ∙ front in
      let (short, tail) = drop-is (accepted line_of h) (left_count h) line rest shown in
      record {
        handed_le = omega (arith, equal, w.handed_is, w.taken_is);
        ahead = omega (arith, equal, w.handed_is, w.taken_is);
        within = omega (arith, short, w.length_is, left_is);
        waiting_is = sym tail ∙ (λ i. drop (sym left_is i) (sym accepted_same i));
        hand_is = sym (text_taken h n line rest q.within shown equal)
            ∙ ap (λ k. slice_get (undropped_lines line_of (h ++ (step.Take, reply.Text n) ∷ [])) k) (sym handed_same)
            ∙ sym (hand_when (h ++ (step.Take, reply.Text n) ∷ []) (omega (arith, equal, w.handed_is, w.taken_is)));
        stopped_is = q.stopped_is ∙ sym (w.stopped_is ∙ or_no (is_stopped h));
        submitted_is = q.submitted_is ∙ ap (λ l. length l % 2 ^ 64) (sym accepted_same);
        drained_is = omega (arith, q.drained_is, w.taken_is);
        dropped_is = omega (arith, q.dropped_is, w.dropped_is);
        room = within_less queue line rest (subst (λ w. IsWithin queue w) front q.room);
      }

  -- The queue and the hand stay right after a turn that hands on one line.
  pub queue_hand : (h : List (Turn A)) (t : Turn A) (o : Option ℕ) (line : List ℕ) (s : QueueState) → accepted_by_turn line_of t ≡ []
      → takes_text t ≡ false → drops_text t ≡ false → outcome_by t ≡ o ∷ [] → stops t ≡ false → QueueAfter h s → s.in_hand ≡ Some line
      → QueueAfter (h ++ t ∷ []) (record s { in_hand = None })
  queue_hand h t o line s a k d b z q some =
      let w : Grows h (h ++ t ∷ []) [] 1 0 0 false = grows h t [] (o ∷ []) false false false a b k d z in
      let accepted_same : accepted line_of (h ++ t ∷ []) ≡ accepted line_of h = w.accepted_is ∙ append-nil (accepted line_of h) in
      let left_same : left_count (h ++ t ∷ []) ≡ left_count h = omega (arith, w.left_is) in
      let (next, text) = full_hand h s line q some in
      record {
        handed_le = omega (arith, next, w.handed_is, w.taken_is);
        ahead = omega (arith, q.ahead, w.handed_is, w.taken_is);
        within = omega (arith, q.within, w.length_is, left_same);
        waiting_is = q.waiting_is ∙ (λ i. drop (sym left_same i) (sym accepted_same i));
        hand_is = sym (hand_else (h ++ t ∷ []) (omega (arith, q.ahead, w.handed_is, w.taken_is)));
        stopped_is = q.stopped_is ∙ sym (w.stopped_is ∙ or_no (is_stopped h));
        submitted_is = q.submitted_is ∙ ap (λ l. length l % 2 ^ 64) (sym accepted_same);
        drained_is = omega (arith, q.drained_is, w.taken_is);
        dropped_is = omega (arith, q.dropped_is, w.dropped_is);
        room = q.room;
      }

  -- The queue and the hand stay right after a stop.
  pub queue_stop : (h : List (Turn A)) (s : QueueState) → QueueAfter h s → QueueAfter (h ++ (step.Stop, reply.Stopped) ∷ []) (record s { stopped = true })
  queue_stop h s q =
      let w : Grows h (h ++ (step.Stop, reply.Stopped) ∷ []) [] 0 0 0 true =
      grows h (step.Stop, reply.Stopped) [] [] false false true refl refl refl refl refl in
      let accepted_same : accepted line_of (h ++ (step.Stop, reply.Stopped) ∷ []) ≡ accepted line_of h =
      w.accepted_is ∙ append-nil (accepted line_of h) in
      let left_same : left_count (h ++ (step.Stop, reply.Stopped) ∷ []) ≡ left_count h = omega (arith, w.left_is) in
      record {
        handed_le = omega (arith, q.handed_le, w.handed_is, w.taken_is);
        ahead = omega (arith, q.ahead, w.handed_is, w.taken_is);
        within = omega (arith, q.within, w.length_is, left_same);
        waiting_is = q.waiting_is ∙ (λ i. drop (sym left_same i) (sym accepted_same i));
        hand_is = q.hand_is ∙ hand_same h (step.Stop, reply.Stopped) q.ahead q.within (omega (arith, w.taken_is)) (omega (arith, w.handed_is));
        stopped_is = sym (w.stopped_is ∙ or_yes (is_stopped h));
        submitted_is = q.submitted_is ∙ ap (λ l. length l % 2 ^ 64) (sym accepted_same);
        drained_is = omega (arith, q.drained_is, w.taken_is);
        dropped_is = omega (arith, q.dropped_is, w.dropped_is);
        room = q.room;
      }

  within_none : (capacity : Option ℕ) → IsWithin {T = List ℕ} capacity []
  within_none None = tt
  within_none (Some capacity) = zero-le

  pub queue_none : QueueAfter [] at_start
  queue_none =
      record {
        handed_le = zero-le;
        ahead = zero-le;
        within = zero-le;
        waiting_is = refl;
        hand_is = refl;
        stopped_is = refl;
        submitted_is = refl;
        drained_is = refl;
        dropped_is = refl;
        room = within_none queue;
      }
