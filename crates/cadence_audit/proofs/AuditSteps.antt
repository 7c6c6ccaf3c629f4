-- What each call does to the history and to the queue under the lock.
use Rattle.std.proofs.Common.{drop, map, ◌≡◌, ℕ, zero, suc, ◌+◌, ◌<◌, ◌≤◌, ◌==◌, ◌||◌, ◌&&◌, ◌⊎◌, ◌≢◌, Bool, true, false, IsTrue, cond}
use Rattle.std.proofs.Common.{List, [], ◌∷◌, ◌++◌, length, take, set, Option, Some, None, is_none, Result, Ok, Err, IfOk, IfErr, IsErrAnd}
use Rattle.std.proofs.Common.{slice_get, slice_index, get_or, replicate, count_by, refl, sym, ap, subst, inl, inr, arith, ◌∙◌}
use Rattle.std.proofs.lemmas.Grind.{common_steps, flat_map-append}
use Rattle.std.proofs.lemmas.Bool.Decides.{nat_tests}
use Rattle.std.proofs.lemmas.List.{get_or-set_same, get_or-set_other, length-set, take-append-le, append-nil, append_assoc, drop-append-le}
use Rattle.std.proofs.lemmas.List.{drop_more, length-append, length-map, map-append}
use Rattle.std.proofs.lemmas.Option.{slice_get_within, get_or_from_slice_get}
use Rattle.std.proofs.Math.Bool.{and-true, or-false, or-true}
use Rattle.std.proofs.lemmas.List.Sums.{sum_by-append}
use Rattle.std.proofs.lemmas.List.Folds.{list_any-append}
use Rattle.cadence_errors.specs.declared.SinkError.{SinkError}
use Rattle.cadence_errors.specs.declared.SinkError.TheVariants as refusal
use Rattle.cadence_queue.specs.QueueState.{Queue}
use Rattle.cadence_queue.specs.Queue.{IsTaken, IsRefusal, Accepts, after_stop, is_full, lacks_room, drops_for_room, at_capacity}
use Rattle.cadence_queue.specs.QueueModel.{by_take, IsQueueOf, IsAccepted, IsNext}
use Rattle.cadence_queue.specs.declared.policy.QueuePolicy.TheVariants.{Refuse}
use Rattle.cadence_queue.specs.declared.queue_core.Taken.{Taken}
use Rattle.cadence_queue.specs.declared.queue_core.Taken.TheVariants as taken
use Rattle.cadence_audit.specs.declared.event.Event.{Event}
use Rattle.cadence_audit.specs.declared.event.AuditCall.{AuditCall}
use Rattle.cadence_audit.specs.declared.event.AuditCall.TheVariants as call
use Rattle.cadence_audit.specs.declared.event.AuditReply.{AuditReply}
use Rattle.cadence_audit.specs.declared.event.AuditReply.TheVariants as reply
use Rattle.cadence_audit.specs.declared.event.SubmitReply.{SubmitReply}
use Rattle.cadence_audit.specs.declared.event.SubmitReply.TheVariants as submit
use Rattle.cadence_audit.specs.AuditHistory.{IsLegal, MayFollow, accepted_texts, taken_texts, texts_taken_count, was_stopped, waiting_texts, event_count}
use Rattle.cadence_audit.specs.AuditHistory.{accepted_text, returned_text, is_stop, take_reply, submit_reply}
use Rattle.cadence_audit.specs.AuditSeats.{SeatState, AreReceiptsOf, next_event}
use Rattle.cadence_audit.specs.AuditedCore.{AuditedCoreState, RecordsCall, DoesNothing, IsKnown, HasLegalHistory}
use Rattle.cadence_audit.specs.AuditedCore.{IsSubmitReply, IsRefusalReply, exits_of_events}
use Rattle.cadence_audit.specs.declared.errors.AuditError.{AuditError}
use Rattle.cadence_audit.specs.declared.errors.AuditError.TheVariants.{OutOfMemory}

-- After a text was accepted, the accepted texts are still those taken and then those that wait.
order_accepted : (accepted given : List (List ℕ)) (t : ℕ) (x : List ℕ) → t ≤ length accepted → accepted ≡ given ++ drop t accepted
    → accepted ++ x ∷ [] ≡ (given ++ []) ++ drop t (accepted ++ x ∷ [])
order_accepted accepted given t x front order =
    rw (append-nil, drop-append-le t accepted (x ∷ []) front) (ap (λ l. l ++ x ∷ []) order ∙ append_assoc given (drop t accepted) (x ∷ []))

-- After a text was taken, the accepted texts are still those taken and then those that wait.
order_taken : (accepted given : List (List ℕ)) (t : ℕ) (x : List ℕ) → accepted ≡ given ++ drop t accepted → slice_get accepted t ≡ Some x
    → accepted ≡ (given ++ x ∷ []) ++ drop (t + 1) accepted
order_taken accepted given t x order at =
    let inside : t < length accepted = slice_get_within accepted t x at in
    let first : drop t accepted ≡ x ∷ drop (t + 1) accepted = drop_more accepted t x inside
    ∙ ap (λ y. y ∷ drop (t + 1) accepted) (get_or_from_slice_get accepted t x x at) in
    order ∙ ap (λ l. given ++ l) first ∙ sym (append_assoc given (x ∷ []) (drop (t + 1) accepted))

-- The test `==` of two counts says whether they are the same.
pub same_count : (a b c d : ℕ) → a ≡ c → b ≡ d → (IsTrue (a == b) → d ≡ c) × (d ≡ c → IsTrue (a == b))
same_count a b c d ac bd = (λ t. grind (arith, nat_tests), λ e. grind (arith, nat_tests))

-- Each element of a list of zeros is 0.
pub zeros_index : (xs : List ℕ) (n : ℕ) → xs ≡ replicate n 0 → (k : ℕ) → k < length xs → slice_index xs k ≡ 0
zeros_index xs n is k lt = grind (arith, common_steps)

-- One more element adds 1 to the count if it passes the test.
pub count_push : {X : Type 0} (p : X → Bool) (xs : List X) (x : X) → count_by p (xs ++ x ∷ []) ≡ count_by p xs + cond (p x) 1 0
count_push p xs x = omega (arith, sum_by-append (λ y. cond (p y) 1 0) xs (x ∷ []))

-- After one more element was added at the end, an element is an earlier one or that one.
pub get_push : {X : Type 0} (xs : List X) (x e : X) (i : ℕ) → slice_get (xs ++ x ∷ []) i ≡ Some e
    → ((i < length xs) × (slice_get xs i ≡ Some e)) ⊎ ((i ≡ length xs) × (x ≡ e))
get_push [] x e zero h = inr (refl, cc)
get_push [] x e (suc i) h = cc
get_push (y ∷ ys) x e zero h = inl (omega arith, h)
get_push (y ∷ ys) x e (suc i) h =
    elim (get_push ys x e i h) [ inl p ↦ inl (omega (arith, p.0), p.1) | inr q ↦ inr (ap suc q.0, q.1) ]

module _ {Z : Type 0} where
  -- A legal history stays legal with one more event that may follow it.
  pub legal_push : (capacity : Option ℕ) (es : List (Event Z)) (e : Event Z) → IsLegal capacity es → MayFollow capacity es e
      → IsLegal capacity (es ++ e ∷ [])
  legal_push capacity es e h m i f got =
      elim (get_push es e f i got) [
        | inl p ↦ let le : i ≤ length es = omega (arith, p.0) in rw take-append-le (h i f p.1)
        | inr q ↦
            let here : take i (es ++ e ∷ []) ≡ es = grind (arith, common_steps, q.0) in
            rw here (subst (λ x. MayFollow capacity es x) q.1 m)
      ]

  -- If a seat has the right receipts, it has the right ones after its next call too.
  pub receipts_push : (number : ℕ) (rs : List (Event Z)) (r : Event Z) → AreReceiptsOf number rs → r.seat ≡ number → r.count ≡ length rs
      → AreReceiptsOf number (rs ++ r ∷ [])
  receipts_push number rs r h seat count k f got =
      elim (get_push rs r f k got) [
        | inl p ↦ h k f p.1
        | inr q ↦ (ap (λ (x : Event Z). x.seat) (sym q.1) ∙ seat, ap (λ (x : Event Z). x.count) (sym q.1) ∙ count ∙ sym q.0)
      ]

  -- If the counts are right, the count at a place is the number of events of the seat with that number.
  pub counted_get : (es : List (Event Z)) (counts : List ℕ) → ((k : ℕ) → k < length counts → slice_index counts k ≡ event_count k es)
      → (n x : ℕ) → n < length counts → x ≡ get_or counts n x → x ≡ event_count n es
  counted_get es counts h n x lt is = grind (arith, common_steps, h n lt)

  -- The counts are right after one more event of a seat.
  pub counted_at : (es : List (Event Z)) (counts : List ℕ) (e : Event Z) (n j : ℕ) (b : Bool) → (e.seat == j) ≡ b
      → ((k : ℕ) → k < length counts → slice_index counts k ≡ event_count k es)
      → e.count ≡ event_count e.seat es → n ≡ e.count + 1 → j < length (set counts e.seat n)
      → slice_index (set counts e.seat n) j ≡ event_count j (es ++ e ∷ [])
  counted_at es counts e n j true is k m more lt =
      let push = count_push (λ (f : Event Z). f.seat == j) es e in
      let same : e.seat ≡ j = grind (arith, nat_tests) in
      let inside : j < length counts = omega (arith, length-set counts e.seat n) in
      let there : e.seat < length counts = omega (arith, same) in
      rw push (rw is (rw (← same) (rw get_or-set_same (omega arith))))
  counted_at es counts e n j false is k m more lt =
      let push = count_push (λ (f : Event Z). f.seat == j) es e in
      let other : j ≢ e.seat = grind (arith, nat_tests) in
      let inside : j < length counts = omega (arith, length-set counts e.seat n) in
      rw push (rw is (rw get_or-set_other (omega (arith, k j inside))))

  -- As many texts left the queue as were taken.
  as_many : (es : List (Event Z)) → length (exits_of_events es) ≡ texts_taken_count es
  as_many es = length-map (taken_texts es) (λ _. by_take)

  -- The texts that wait in the queue are those that wait by the events.
  waits_after : (capacity : Option ℕ) (es : List (Event Z)) (core : Queue (List ℕ)) (counts : List ℕ) → HasLegalHistory capacity es core counts
      → core.waiting ≡ waiting_texts es
  waits_after capacity es core counts k = k.past.waits ∙ ap (λ n. drop n (accepted_texts es)) (as_many es)

  -- A call leaves a legal history whose calls lead to the queue, if the queue has the past that the call's event gives.
  pub kept_push : (capacity : Option ℕ) (es : List (Event Z)) (core after : Queue (List ℕ)) (counts : List ℕ) (e : Event Z) (n t : ℕ)
      → HasLegalHistory capacity es core counts → MayFollow capacity es e → n ≡ e.count + 1
      → t ≡ texts_taken_count es + length (returned_text e.reply)
      → accepted_texts es ++ accepted_text e ≡ (taken_texts es ++ returned_text e.reply) ++ drop t (accepted_texts es ++ accepted_text e)
      → IsQueueOf (accepted_texts es ++ accepted_text e) (map (λ _. by_take) (taken_texts es ++ returned_text e.reply)) after
      → after.capacity ≡ core.capacity
      → after.policy ≡ core.policy
      → after.stopped ≡ (core.stopped || is_stop e.call)
      → HasLegalHistory capacity (es ++ e ∷ []) after (set counts e.seat n)
  kept_push capacity es core after counts e n t k m more now order past bound same stop =
      let a : accepted_texts (es ++ e ∷ []) ≡ accepted_texts es ++ accepted_text e = flat_map-append accepted_text es (e ∷ [])
      ∙ ap (λ l. accepted_texts es ++ l) (append-nil (accepted_text e)) in
      let g : taken_texts (es ++ e ∷ []) ≡ taken_texts es ++ returned_text e.reply = flat_map-append (λ (f : Event Z). returned_text f.reply) es (e ∷ [])
      ∙ ap (λ l. taken_texts es ++ l) (append-nil (returned_text e.reply)) in
      let c : length (taken_texts es ++ returned_text e.reply) ≡ t = length-append (taken_texts es) (returned_text e.reply) ∙ sym now in
      let s : was_stopped (es ++ e ∷ []) ≡ (was_stopped es || is_stop e.call) = list_any-append (λ (f : Event Z). is_stop f.call) es (e ∷ [])
      ∙ ap (λ b. was_stopped es || b) (or-false (is_stop e.call)) in
      record {
        legal = legal_push capacity es e k.legal m;
        order = rw (a, g, c) order;
        past = rw (a, g) past;
        bound = bound ∙ k.bound;
        refuses = same ∙ k.refuses;
        stop = stop ∙ ap (λ b. b || is_stop e.call) k.stop ∙ sym s;
        counted = λ j lt. counted_at es counts e n j (e.seat == j) refl k.counted m.1 more lt;
      }

  -- A call that didn't change the queue leaves a legal history whose calls lead to the queue.
  pub kept_same : (capacity : Option ℕ) (es : List (Event Z)) (core : Queue (List ℕ)) (counts : List ℕ) (e : Event Z) (n : ℕ)
      → HasLegalHistory capacity es core counts → MayFollow capacity es e → n ≡ e.count + 1
      → accepted_text e ≡ [] → returned_text e.reply ≡ [] → is_stop e.call ≡ false
      → HasLegalHistory capacity (es ++ e ∷ []) core (set counts e.seat n)
  kept_same capacity es core counts e n k may more none gave stop =
      kept_push capacity es core core counts e n (texts_taken_count es) k may more
      (rw gave (omega arith))
      (rw (none, gave, append-nil, append-nil) k.order)
      (rw (none, gave, append-nil, append-nil) k.past)
      refl
      refl
      (rw stop (sym (or-false core.stopped)))

  -- A stop leaves a legal history whose calls lead to the queue.
  abbrev stop_event : ℕ → ℕ → Event Z
  stop_event seat n = record { seat = seat; count = n; call = call.Stop; reply = reply.Stop }

  pub kept_stop : (capacity : Option ℕ) (es : List (Event Z)) (core after : Queue (List ℕ)) (counts : List ℕ) (seat n : ℕ)
      → HasLegalHistory capacity es core counts → n ≡ event_count seat es → after ≡ after_stop core
      → HasLegalHistory capacity (es ++ stop_event seat n ∷ []) after (set counts seat (n + 1))
  kept_stop capacity es core after counts seat n k is h =
      let past : IsQueueOf (accepted_texts es ++ []) (map (λ _. by_take) (taken_texts es ++ [])) (after_stop core) =
      rw (append-nil, append-nil) (record {
        waits = k.past.waits;
        front = k.past.front;
        submitted = k.past.submitted;
        drained = k.past.drained;
        dropped = k.past.dropped;
      }) in
      rw h (kept_push capacity es core (after_stop core) counts (stop_event seat n) (n + 1) (texts_taken_count es) k (refl, is) refl (omega arith)
      (rw (append-nil, append-nil) k.order) past refl refl (sym (or-true core.stopped)))

  -- A take leaves a legal history whose calls lead to the queue.
  abbrev take_event : ℕ → ℕ → Taken (List ℕ) → Event Z
  take_event seat n t = record { seat = seat; count = n; call = call.Take; reply = reply.Take t }

  kept_taken : (capacity : Option ℕ) (es : List (Event Z)) (core after : Queue (List ℕ)) (counts : List ℕ) (seat n : ℕ) (t : Taken (List ℕ))
      → HasLegalHistory capacity es core counts → MayFollow capacity es (take_event seat n t) → IsTaken core t after → IsNext core t after
      → HasLegalHistory capacity (es ++ take_event seat n t ∷ []) after (set counts seat (n + 1))
  kept_taken capacity es core after counts seat n (taken.Text x) k may h next =
      kept_push capacity es core after counts (take_event seat n (taken.Text x)) (n + 1) (texts_taken_count es + 1) k may refl refl
      (rw append-nil (order_taken (accepted_texts es) (taken_texts es) (texts_taken_count es) x k.order
      (ap (slice_get (accepted_texts es)) (sym (as_many es)) ∙ (next (accepted_texts es) (exits_of_events es) k.past).0)))
      (rw (append-nil, map-append) (next (accepted_texts es) (exits_of_events es) k.past).1)
      (ap (λ q. q.capacity) h.1)
      (ap (λ q. q.policy) h.1)
      (ap (λ q. q.stopped) h.1 ∙ sym (or-false core.stopped))
  kept_taken capacity es core after counts seat n taken.Empty k may h next =
      rw h.2 (kept_same capacity es core counts (take_event seat n taken.Empty) (n + 1) k may refl refl refl refl)
  kept_taken capacity es core after counts seat n taken.Ended k may h next =
      rw h.2 (kept_same capacity es core counts (take_event seat n taken.Ended) (n + 1) k may refl refl refl refl)

-- A take returns the oldest waiting text.
pub taken_is_first : (q r : Queue (List ℕ)) (t : Taken (List ℕ)) → IsTaken q t r → t ≡ take_reply q.stopped q.waiting
taken_is_first q r (taken.Text x) h = rw h.0 refl
taken_is_first q r taken.Empty h = rw (h.0, h.1) refl
taken_is_first q r taken.Ended h = rw (h.0, h.1) refl

-- A queue with the policy to refuse drops no text, and lacks room exactly if it is full.
drops_none : (core : Queue (List ℕ)) (oldest : List ℕ) → core.policy ≡ Refuse → drops_for_room core.policy core.waiting ≡ Some oldest → ⊥
drops_none core oldest refuses first = let bad : ◌≡◌ {A = Option (List ℕ)} None (Some oldest) = ap (λ p. drops_for_room p core.waiting) (sym refuses)
    ∙ first in cc

refuses_full : (core : Queue (List ℕ)) → core.policy ≡ Refuse → lacks_room core ≡ is_full core
refuses_full core refuses = ap (λ p. is_full core && is_none (drops_for_room p core.waiting)) refuses ∙ and-true (is_full core)

-- The reply to a refused submit is the one that the history calls for, and it is not `Accepted`.
submit_is : (s f : Bool) (e : SinkError) (x : List ℕ) (r : SubmitReply)
    → e ≡ cond s refusal.ChannelDisconnected (cond f refusal.ChannelFull refusal.OutOfMemory)
    → IsRefusalReply e x (Ok r) → (r ≡ submit_reply s f) × (r ≢ submit.Accepted)
submit_is true f e x r is h = let t : Ok r ≡ Ok submit.Stopped = subst (λ a. IsRefusalReply a x (Ok r)) is h in (cc, λ q. cc)
submit_is false true e x r is h = let t : Ok r ≡ Ok submit.Full = subst (λ a. IsRefusalReply a x (Ok r)) is h in (cc, λ q. cc)
submit_is false false e x r is h = let t : Ok r ≡ Err x = subst (λ a. IsRefusalReply a x (Ok r)) is h in cc

module _ {Z : Type 0} where
  pub kept_take : (capacity : Option ℕ) (es : List (Event Z)) (core after : Queue (List ℕ)) (counts : List ℕ) (seat n : ℕ) (t : Taken (List ℕ))
      → HasLegalHistory capacity es core counts → n ≡ event_count seat es → IsTaken core t after → IsNext core t after
      → HasLegalHistory capacity (es ++ take_event seat n t ∷ []) after (set counts seat (n + 1))
  kept_take capacity es core after counts seat n t k is h next =
      let may : t ≡ take_reply (was_stopped es) (waiting_texts es) = taken_is_first core after t h ∙ ap (λ b. take_reply b core.waiting) k.stop
      ∙ ap (take_reply (was_stopped es)) (waits_after capacity es core counts k) in
      kept_taken capacity es core after counts seat n t k (ap reply.Take may, is) h next

  -- A submit leaves a legal history whose calls lead to the queue.
  abbrev submit_event : ℕ → ℕ → List ℕ → SubmitReply → Event Z
  submit_event seat n x r = record { seat = seat; count = n; call = call.Submit x; reply = reply.Submit r }

  refused_submit : (capacity : Option ℕ) (es : List (Event Z)) (core : Queue (List ℕ)) (counts : List ℕ) (seat n : ℕ) (x : List ℕ) (r : SubmitReply)
      → HasLegalHistory capacity es core counts → MayFollow capacity es (submit_event seat n x r) → r ≢ submit.Accepted
      → HasLegalHistory capacity (es ++ submit_event seat n x r ∷ []) core (set counts seat (n + 1))
  refused_submit capacity es core counts seat n x submit.Accepted k may not = absurd (not refl)
  refused_submit capacity es core counts seat n x submit.Full k may not =
      kept_same capacity es core counts (submit_event seat n x submit.Full) (n + 1) k may refl refl refl refl
  refused_submit capacity es core counts seat n x submit.Stopped k may not =
      kept_same capacity es core counts (submit_event seat n x submit.Stopped) (n + 1) k may refl refl refl refl

  pub kept_submit : (capacity : Option ℕ) (es : List (Event Z)) (core after : Queue (List ℕ)) (counts : List ℕ) (seat n : ℕ) (x : List ℕ)
      (answer : Result (Option (List ℕ)) (SinkError
      × List ℕ)) (r : SubmitReply)
      → HasLegalHistory capacity es core counts → n ≡ event_count seat es
      → IfOk answer (λ dropped. Accepts core x dropped after)
      → IfOk answer (λ dropped. IsAccepted core x dropped after)
      → IfErr answer (λ e. IsRefusal core e.0 × (e.1 ≡ x) × (after ≡ core))
      → IsSubmitReply answer (Ok r)
      → HasLegalHistory capacity (es ++ submit_event seat n x r ∷ []) after (set counts seat (n + 1))
  kept_submit capacity es core after counts seat n x (Ok (Some oldest)) r k is ok past err told = absurd (drops_none core oldest k.refuses ok.2)
  kept_submit capacity es core after counts seat n x (Ok None) r k is ok past err told =
      let full : at_capacity capacity (waiting_texts es) ≡ false = sym (ap (λ c. at_capacity c (waiting_texts es)) k.bound)
      ∙ sym (ap (at_capacity core.capacity) (waits_after capacity es core counts k)) ∙ ok.1 in
      let here : r ≡ submit.Accepted = cc in
      let may : MayFollow capacity es (submit_event seat n x submit.Accepted) = (rw (← k.stop, ok.0, full) refl, is) in
      let after_past : IsQueueOf (accepted_texts es ++ x ∷ []) (map (λ _. by_take) (taken_texts es ++ [])) after =
      rw append-nil (past (accepted_texts es) (exits_of_events es) k.past) in
      rw here
      (kept_push capacity es core after counts (submit_event seat n x submit.Accepted) (n + 1) (texts_taken_count es) k may refl (omega arith)
      (order_accepted (accepted_texts es) (taken_texts es) (texts_taken_count es) x (omega (arith, k.past.front, as_many es)) k.order)
      after_past
      (ap (λ q. q.capacity) ok.2)
      (ap (λ q. q.policy) ok.2)
      (ap (λ q. q.stopped) ok.2 ∙ sym (or-false core.stopped)))
  kept_submit capacity es core after counts seat n x (Err e) r k is ok past err told =
      let both = submit_is core.stopped (is_full core) e.0 e.1 r (err.0
      ∙ ap (λ b. cond core.stopped refusal.ChannelDisconnected (cond b refusal.ChannelFull refusal.OutOfMemory))
      (refuses_full core k.refuses)) told in
      let full : is_full core ≡ at_capacity capacity (waiting_texts es) = ap (λ c. at_capacity c core.waiting) k.bound
      ∙ ap (at_capacity capacity) (waits_after capacity es core counts k) in
      let reply_is : r ≡ submit_reply (was_stopped es) (at_capacity capacity (waiting_texts es)) = both.0
      ∙ ap (λ b. submit_reply b (is_full core)) k.stop ∙ ap (submit_reply (was_stopped es)) full in
      rw err.2 (refused_submit capacity es core counts seat n x r k (ap reply.Submit reply_is, is) both.1)

-- A call for which memory ran out did nothing.
pub did_nothing : {T Z : Type 0} (r : Result T AuditError) (p q : AuditedCoreState Z) (s t : SeatState Z)
    → IsErrAnd r (λ e. e ≡ OutOfMemory) → IsKnown p s → q ≡ p → t ≡ s
    → IfErr r (DoesNothing p q s t)
did_nothing (Ok x) p q s t want known past seat = absurd want
did_nothing (Err e) p q s t want known past seat =
    subst (DoesNothing p q s t) (sym want) (known, past, seat)

-- A submit that gives its text back didn't change the queue.
pub given_back : (core after : Queue (List ℕ)) (x text : List ℕ)
    (answer : Result (Option (List ℕ)) (SinkError × List ℕ))
    → IfErr answer (λ e. IsRefusal core e.0 × (e.1 ≡ x) × (after ≡ core))
    → IsSubmitReply answer (Err text) → after ≡ core
given_back core after x text (Ok dropped) refused told = cc
given_back core after x text (Err e) refused told = refused.2

-- A call that adds its event to the history and its receipt to the seat is one that returned `Ok`.
pub notes : {Z : Type 0} (p q : AuditedCoreState Z) (s t : SeatState Z) (c : AuditCall Z) (r : AuditReply Z)
    {p' : AuditedCoreState Z} {s' : SeatState Z} {e f : Event Z} {c1 c2 : AuditCall Z} {r1 r2 : AuditReply Z}
    → p' ≡ p → s' ≡ s → e ≡ next_event s' c1 r1 → f ≡ next_event s' c2 r2
    → c1 ≡ c → c2 ≡ c → r1 ≡ r → r2 ≡ r
    → q ≡ record p' { events = p'.events ++ e ∷ [] }
    → t ≡ record s' { receipts = s'.receipts ++ f ∷ [] }
    → RecordsCall p q s t c r
notes p q s t c r past seat event receipt call1 call2 reply1 reply2 more held =
    rw (more, held, event, receipt, call1, call2, reply1, reply2, past, seat) (refl, refl)
