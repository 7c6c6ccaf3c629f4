-- What each step of a queue does to its past (`IsQueueOf`).
use Rattle.std.proofs.Common.{◌≡◌, ℕ, ◌+◌, ◌%◌, ◌^◌, ◌<◌, Bool, List, [], ◌∷◌, ◌++◌, Option, Some, None, length, drop, get_or, count_by, ap}
use Rattle.std.proofs.Common.{sym, ◌∙◌, arith, cond}
use Rattle.std.proofs.Math.Nat.{mod-add-mod}
use Rattle.std.proofs.lemmas.List.{drop_more, length-drop, length-append, drop-append-le}
use Rattle.std.proofs.lemmas.List.Sums.{sum_by_push}
use Rattle.std.proofs.lemmas.Option.{slice_get-get_or}
use Rattle.std.specs.Prelude.{slice_get}
use Rattle.cadence_queue.specs.QueueState.{Queue}
use Rattle.cadence_queue.specs.Queue.{IsTaken, Accepts, drops_for_room}
use Rattle.cadence_queue.specs.QueueModel.{Exit, by_take, by_drop, is_take, is_drop, IsNext, IsAccepted}
use Rattle.cadence_queue.specs.declared.policy.QueuePolicy.{QueuePolicy}
use Rattle.cadence_queue.specs.declared.policy.QueuePolicy.TheVariants.{Refuse, DropOldest}
use Rattle.cadence_queue.specs.declared.queue_core.Taken.TheVariants.{Text}

-- One more exit adds 1 to the count if it passes the test.
counted_more : (p : Exit → Bool) (exits : List Exit) (e : Exit) → count_by p (exits ++ e ∷ []) ≡ count_by p exits + cond (p e) 1 0
counted_more p exits e = sum_by_push (λ x. cond (p x) 1 0) exits e

module _ {T : Type 0} where
  -- The oldest waiting text is the first accepted one that has not left.
  next_of : (accepted : List T) (n : ℕ) (text : T) (rest : List T) → drop n accepted ≡ text ∷ rest
      → (n < length accepted) × (slice_get accepted n ≡ Some text) × (rest ≡ drop (n + 1) accepted)
  next_of accepted n text rest waits =
      let more : n < length accepted = omega (arith, length-drop n accepted, ap length waits) in
      let next : text ∷ rest ≡ get_or accepted n text ∷ drop (n + 1) accepted = sym waits ∙ drop_more accepted n text more in
      let at : get_or accepted n text ≡ text = cc in
      let tail : rest ≡ drop (n + 1) accepted = cc in
      (more, slice_get-get_or accepted n text more ∙ ap Some at, tail)

  -- The text that is dropped is the oldest one that waits.
  drops_first : (policy : QueuePolicy) (waiting : List T) (oldest : T) → drops_for_room policy waiting ≡ Some oldest
      → waiting ≡ oldest ∷ drop 1 waiting
  drops_first Refuse waiting oldest e = absurd cc
  drops_first DropOldest [] oldest e = absurd cc
  drops_first DropOldest (x ∷ waiting) oldest e = let same : x ≡ oldest = cc in ap (λ y. y ∷ waiting) same

  -- A take that returned a text took the oldest waiting one.
  pub taken_is_next : (q : Queue T) (text : T) (r : Queue T) → IsTaken q (Text text) r → IsNext q (Text text) r
  taken_is_next q text r step = λ accepted exits past.
      let (more, at, rest) = next_of accepted (length exits) text r.waiting (sym past.waits ∙ step.0) in
      let longer : length (exits ++ by_take ∷ []) ≡ length exits + 1 = length-append exits (by_take ∷ []) in
      let drained : r.drained ≡ (q.drained + 1) % 2 ^ 64 = ap (λ z. z.drained) step.1 in (
        at,
        record {
          waits = rest ∙ ap (λ n. drop n accepted) (sym longer);
          front = omega (arith, longer, more);
          submitted = ap (λ z. z.submitted) step.1 ∙ past.submitted;
          drained = drained ∙ ap (λ z. (z + 1) % 2 ^ 64) past.drained ∙ mod-add-mod (count_by is_take exits) (2 ^ 64) 1
              ∙ ap (λ n. n % 2 ^ 64) (sym (counted_more is_take exits by_take));
          dropped = ap (λ z. z.dropped) step.1 ∙ past.dropped ∙ ap (λ n. n % 2 ^ 64) (omega (arith, counted_more is_drop exits by_take));
        },
      )

  -- The count of accepted texts stays right after one more text.
  one_more : (count : ℕ) (accepted : List T) (text : T) → count ≡ length accepted % 2 ^ 64
      → (count + 1) % 2 ^ 64 ≡ length (accepted ++ text ∷ []) % 2 ^ 64
  one_more count accepted text e = ap (λ z. (z + 1) % 2 ^ 64) e ∙ mod-add-mod (length accepted) (2 ^ 64) 1
      ∙ ap (λ n. n % 2 ^ 64) (sym (length-append accepted (text ∷ [])))

  -- A submit that accepted a text adds it to the past, and the text that was dropped for it was the oldest waiting one.
  pub accepts_last : (q : Queue T) (text : T) (dropped : Option T) (r : Queue T) → Accepts q text dropped r → IsAccepted q text dropped r
  accepts_last q text None r (running, room, is) = λ accepted exits past.
      record {
        waits = ap (λ z. z.waiting) is ∙ ap (λ w. w ++ text ∷ []) past.waits ∙ sym (drop-append-le (length exits) accepted (text ∷ []) past.front);
        front = omega (arith, past.front, length-append accepted (text ∷ []));
        submitted = ap (λ z. z.submitted) is ∙ one_more q.submitted accepted text past.submitted;
        drained = ap (λ z. z.drained) is ∙ past.drained;
        dropped = ap (λ z. z.dropped) is ∙ past.dropped;
      }
  accepts_last q text (Some oldest) r (running, full, first, is) = λ accepted exits past.
      let (more, at, rest) = next_of accepted (length exits) oldest (drop 1 q.waiting) (sym past.waits
      ∙ drops_first q.policy q.waiting oldest first) in
      let longer : length (exits ++ by_drop ∷ []) ≡ length exits + 1 = length-append exits (by_drop ∷ []) in
      let behind : drop (length exits + 1) (accepted ++ text ∷ []) ≡ drop (length exits + 1) accepted ++ text ∷ [] =
      drop-append-le (length exits + 1) accepted (text ∷ []) (omega (arith, more)) in (
        at,
        record {
          waits = ap (λ z. z.waiting) is ∙ ap (λ w. w ++ text ∷ []) rest ∙ sym behind ∙ ap (λ n. drop n (accepted ++ text ∷ [])) (sym longer);
          front = omega (arith, more, longer, length-append accepted (text ∷ []));
          submitted = ap (λ z. z.submitted) is ∙ one_more q.submitted accepted text past.submitted;
          drained = ap (λ z. z.drained) is ∙ past.drained ∙ ap (λ n. n % 2 ^ 64) (omega (arith, counted_more is_take exits by_drop));
          dropped = ap (λ z. z.dropped) is ∙ ap (λ z. (z + 1) % 2 ^ 64) past.dropped ∙ mod-add-mod (count_by is_drop exits) (2 ^ 64) 1
              ∙ ap (λ n. n % 2 ^ 64) (sym (counted_more is_drop exits by_drop));
        },
      )
