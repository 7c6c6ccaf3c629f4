-- What the calls of a recorded queue do to the past in its record (`IsPast`).
use Rattle.std.proofs.Common.{◌≡◌, ◌-◌, ◌≤◌, Bool, true, false, cond, List, [], ◌∷◌, ◌++◌, Option, Some, None, Result, Ok, Err, IsOk, IfOk}
use Rattle.std.proofs.Common.{subst, length, drop, length-append, ap, sym, ◌∙◌, arith, refl}
use Rattle.std.proofs.lemmas.List.{append-nil}
use Rattle.std.specs.Prelude.{slice_get}
use Rattle.std.proofs.Math.Logic.{∥∥₁_map}
use Rattle.cadence_queue.specs.QueueState.{Queue}
use Rattle.cadence_queue.specs.Queue.{Accepts, without_handle}
use Rattle.cadence_queue.specs.QueueModel.{Exit, by_take, by_drop, IsQueueOf, IsNext, IsAccepted}
use Rattle.cadence_queue.specs.declared.queue_core.Taken.{Taken}
use Rattle.cadence_queue.specs.declared.queue_core.Taken.TheVariants.{Text, Empty, Ended}
use Rattle.cadence_queue.proofs.QueueModel.{accepts_last}
use Rattle.cadence_queue.specs.QueuePast.{IsPast, texts_taken}
use Rattle.cadence_queue.specs.QueueTaken.{text_if_taken}

module _ {T : Type 0} where
  -- If one more text is accepted, the texts that were taken stay the same.
  taken_longer : (exits : List Exit) (texts : List T) (text : T) → length exits ≤ length texts
      → texts_taken exits (texts ++ text ∷ []) ≡ texts_taken exits texts
  taken_longer [] texts text front = refl
  taken_longer (e ∷ exits) [] text front = absurd (omega arith)
  taken_longer (by_take ∷ exits) (x ∷ texts) text front = ap (λ xs. x ∷ xs) (taken_longer exits texts text (omega arith))
  taken_longer (by_drop ∷ exits) (x ∷ texts) text front = taken_longer exits texts text (omega arith)

  -- If the oldest waiting text is dropped, the texts that were taken stay the same.
  taken_dropped : (exits : List Exit) (texts : List T) → texts_taken (exits ++ by_drop ∷ []) texts ≡ texts_taken exits texts
  taken_dropped [] [] = refl
  taken_dropped [] (x ∷ texts) = refl
  taken_dropped (e ∷ exits) [] = refl
  taken_dropped (by_take ∷ exits) (x ∷ texts) = ap (λ xs. x ∷ xs) (taken_dropped exits texts)
  taken_dropped (by_drop ∷ exits) (x ∷ texts) = taken_dropped exits texts

  -- If the oldest waiting text is taken, it is added to the texts that were taken.
  taken_next : (exits : List Exit) (texts : List T) (text : T) → slice_get texts (length exits) ≡ Some text
      → texts_taken (exits ++ by_take ∷ []) texts ≡ texts_taken exits texts ++ text ∷ []
  taken_next [] [] text at = absurd cc
  taken_next [] (x ∷ texts) text at = let same : x ≡ text = cc in ap (λ y. y ∷ []) same
  taken_next (e ∷ exits) [] text at = absurd cc
  taken_next (by_take ∷ exits) (x ∷ texts) text at = ap (λ xs. x ∷ xs) (taken_next exits texts text at)
  taken_next (by_drop ∷ exits) (x ∷ texts) text at = taken_next exits texts text at

  past_accepts : (accepted taken : List T) (q : Queue T) (text : T) (dropped : Option T) (r : Queue T) → IsAccepted q text dropped r
      → IsPast accepted taken q → IsPast (accepted ++ text ∷ []) taken r
  past_accepts accepted taken q text None r step past =
      record {
        exits = past.exits;
        queue = step accepted past.exits past.queue;
        takes = past.takes ∙ sym (taken_longer past.exits accepted text past.queue.front);
      }
  past_accepts accepted taken q text (Some oldest) r step past =
      record {
        exits = past.exits ++ by_drop ∷ [];
        queue = (step accepted past.exits past.queue).1;
        takes = past.takes ∙ sym (taken_longer past.exits accepted text past.queue.front) ∙ sym (taken_dropped past.exits (accepted ++ text ∷ []));
      }

  past_takes : (accepted taken : List T) (q : Queue T) (answer : Taken T) (r : Queue T) → IsNext q answer r → IsPast accepted taken q
      → IsPast accepted (taken ++ text_if_taken answer) r
  past_takes accepted taken q (Text text) r step past =
      let (at, queue) = step accepted past.exits past.queue in
      record {
        exits = past.exits ++ by_take ∷ [];
        queue = queue;
        takes = ap (λ xs. xs ++ text ∷ []) past.takes ∙ sym (taken_next past.exits accepted text at);
      }
  past_takes accepted taken q Empty r step past = past_stays (step accepted past.exits past.queue).1
    where
      past_stays : IsQueueOf accepted past.exits r → IsPast accepted (taken ++ []) r
      past_stays queue = record { exits = past.exits; queue = queue; takes = append-nil taken ∙ past.takes }
  past_takes accepted taken q Ended r step past = past_stays (step accepted past.exits past.queue).1
    where
      past_stays : IsQueueOf accepted past.exits r → IsPast accepted (taken ++ []) r
      past_stays queue = record { exits = past.exits; queue = queue; takes = append-nil taken ∙ past.takes }

  -- A submit that accepted a text adds it to the past.
  pub past_accepted : (accepted taken : List T) (q : Queue T) (text : T) (dropped : Option T) (r : Queue T) → Accepts q text dropped r
      → ∥ IsPast accepted taken q ∥₁ → ∥ IsPast (accepted ++ text ∷ []) taken r ∥₁
  past_accepted accepted taken q text dropped r step past =
      ∥∥₁_map past (past_accepts accepted taken q text dropped r (accepts_last q text dropped r step))

  -- A take adds the text that it returned to those taken.
  pub past_taken : (accepted taken : List T) (q : Queue T) (answer : Taken T) (r : Queue T) → IsNext q answer r
      → ∥ IsPast accepted taken q ∥₁ → ∥ IsPast accepted (taken ++ text_if_taken answer) r ∥₁
  past_taken accepted taken q answer r step past = ∥∥₁_map past (past_takes accepted taken q answer r step)

  -- A call that changes neither the texts nor the counts keeps the past.
  pub past_kept : (accepted taken : List T) (q r : Queue T) → r.waiting ≡ q.waiting → r.submitted ≡ q.submitted → r.drained ≡ q.drained
      → r.dropped ≡ q.dropped → ∥ IsPast accepted taken q ∥₁ → ∥ IsPast accepted taken r ∥₁
  past_kept accepted taken q r waiting submitted drained dropped past = ∥∥₁_map past (λ p.
      record {
        exits = p.exits;
        queue = record {
          waits = waiting ∙ p.queue.waits;
          front = p.queue.front;
          submitted = submitted ∙ p.queue.submitted;
          drained = drained ∙ p.queue.drained;
          dropped = dropped ∙ p.queue.dropped;
        };
        takes = p.takes;
      })

  -- If each of two queues has this past, so does the one that a test selects.
  past_either : (accepted taken : List T) (b : Bool) (q r : Queue T) → ∥ IsPast accepted taken q ∥₁ → ∥ IsPast accepted taken r ∥₁
      → ∥ IsPast accepted taken (cond b q r) ∥₁
  past_either accepted taken true q r this other = this
  past_either accepted taken false q r this other = other

  pub past_without_handle : (accepted taken : List T) (q : Queue T) → ∥ IsPast accepted taken q ∥₁ → ∥ IsPast accepted taken (without_handle q) ∥₁
  past_without_handle accepted taken q past = past_either accepted taken _ q _ past (past_kept accepted taken q _ refl refl refl refl past)

  -- A new queue has the empty past.
  pub past_none : (q : Queue T) → IsQueueOf [] [] q → ∥ IsPast [] [] q ∥₁
  past_none q queue = ∣ record { exits = []; queue = queue; takes = refl } ∣₁

  newest_at : (xs : List T) (x : T) → slice_get (xs ++ x ∷ []) (length xs) ≡ Some x
  newest_at [] x = refl
  newest_at (y ∷ xs) x = newest_at xs x

  newest_in : (waiting xs : List T) (x : T) → waiting ≡ xs ++ x ∷ [] → slice_get waiting (length waiting - 1) ≡ Some x
  newest_in waiting xs x is =
      let last : length waiting - 1 ≡ length xs = omega (arith, ap length is, length-append xs (x ∷ [])) in
      ap (λ w. slice_get w (length waiting - 1)) is ∙ ap (λ n. slice_get (xs ++ x ∷ []) n) last ∙ newest_at xs x

  -- The accepted text is the newest one that waits.
  pub accepted_is_newest : (q : Queue T) (text : T) (dropped : Option T) (r : Queue T) → Accepts q text dropped r
      → slice_get r.waiting (length r.waiting - 1) ≡ Some text
  accepted_is_newest q text None r (running, room, is) = newest_in r.waiting q.waiting text (ap (λ z. z.waiting) is)
  accepted_is_newest q text (Some oldest) r (running, full, first, is) = newest_in r.waiting (drop 1 q.waiting) text (ap (λ z. z.waiting) is)

  same_newest : (q : Queue T) (text found : T) (dropped : Option T) (r : Queue T) → Accepts q text dropped r
      → slice_get r.waiting (length r.waiting - 1) ≡ Some found → text ≡ found
  same_newest q text found dropped r step at = let same : Some text ≡ Some found = sym (accepted_is_newest q text dropped r step) ∙ at in cc

  -- After a submit that returned `Ok` the newest text that waits is the submitted one, and the step is the one that accepted it.
  pub submitted_newest : {E : Type 0} (q : Queue T) (text : T) (answer : Result (Option T) E) (r : Queue T) → IsOk answer
      → IfOk answer (λ dropped. Accepts q text dropped r) → (found : T) → slice_get r.waiting (length r.waiting - 1) ≡ Some found
      → (text ≡ found) × ((dropped : Option T) × Accepts q found dropped r)
  submitted_newest q text (Ok dropped) r is step found at =
      let same = same_newest q text found dropped r step at in
      (same, (dropped, subst (λ t. Accepts q t dropped r) same step))
  submitted_newest q text (Err e) r is step found at = absurd cc

  module _ {P : T → Type 0} (q r : Queue T) (dropped : Option T) (made : (text : T) × P text × Accepts q text dropped r) where
    -- The newest text that waits is one that was made, and the step is the one that accepted it.
    pub newest_is_made : (found : T) → slice_get r.waiting (length r.waiting - 1) ≡ Some found → P found × Accepts q found dropped r
    newest_is_made found at =
        let (text, is, step) = made in
        subst (λ t. P t × Accepts q t dropped r) (same_newest q text found dropped r step at) (is, step)
