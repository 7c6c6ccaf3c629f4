-- What follows from what a look at a queue shows, and from what its worker has handed on.
use Rattle.std.proofs.Common.{Result, Ok, IfOk, subst}
use Rattle.std.proofs.Common.{◌≡◌, ℕ, ◌-◌, ◌≤◌, false, List, [], ◌∷◌, ◌++◌, String, string_bytes, map, length, drop, ap, sym, ◌∙◌, arith, append_assoc}
use Rattle.std.proofs.Math.Logic.{∥∥₁_map}
use Rattle.std.proofs.lemmas.List.{append-nil, length-drop, map-append}
use mathlib.Core.List.{IsPrefix}
use Rattle.cadence_queue.specs.Queue.{IsEnd}
use Rattle.cadence_queue.specs.QueuePast.{IsPast}
use Rattle.cadence_queue.specs.QueueState.{Queue, drops}
use Rattle.cadence_queuing.specs.Delivered.{AreDelivered}

-- what is so of an Ok result
pub ok_so : {T E : Type 0} (P : T → Type 0) (r : Result T E) (x : T) → r ≡ Ok x → IfOk r P → P x
ok_so P r x is fact = subst (λ a. IfOk a P) is fact

module _ {T : Type 0} where
  -- If nothing is left of a list behind its first items, they are all of it.
  all_left : (n : ℕ) (xs : List T) → n ≤ length xs → drop n xs ≡ [] → n ≡ length xs
  all_left n xs front none = omega (arith, front, sym (length-drop n xs) ∙ ap length none)

  -- A queue at its end has delivered its texts.
  pub delivered : (accepted taken : List T) (q : Queue T) → IsEnd q → ∥ IsPast accepted taken q ∥₁
      → (drops q.policy ≡ false → accepted ≡ taken ++ q.waiting) → ∥ AreDelivered q.policy accepted taken ∥₁
  delivered accepted taken q end past whole = ∥∥₁_map past (λ p.
      record {
        exits = p.exits;
        each = all_left _ accepted p.queue.front (sym p.queue.waits ∙ end.1);
        takes = p.takes;
        all = λ keeps. sym (whole keeps ∙ (ap (λ w. taken ++ w) end.1 ∙ append-nil taken));
      })

-- what begins a list of lines begins the lines of more texts
pub begins_more : {A : Type 0} (lines : List (List ℕ)) (seen texts : List (String A)) → IsPrefix seen texts
    → ∥ IsPrefix lines (map string_bytes seen) ∥₁ → ∥ IsPrefix lines (map string_bytes texts) ∥₁
begins_more lines seen texts longer begins = ∥∥₁_map begins (λ b. (
  b.0 ++ map string_bytes longer.0,
  sym (append_assoc lines b.0 (map string_bytes longer.0)) ∙ (ap (λ l. l ++ map string_bytes longer.0) b.1
      ∙ (sym (map-append string_bytes seen longer.0) ∙ ap (map string_bytes) longer.1)),
))

-- the next line begins, with those before it, the lines of the texts that were taken
pub next_begins : {A : Type 0} (handed given left taken : List (String A)) (text : String A) → given ≡ handed ++ text ∷ [] → taken ≡ given ++ left
    → IsPrefix (map string_bytes handed ++ string_bytes text ∷ []) (map string_bytes taken)
next_begins handed given left taken text next whole = (
  map string_bytes left,
  ap (λ l. l ++ map string_bytes left) (sym (map-append string_bytes handed (text ∷ [])) ∙ ap (map string_bytes) (sym next))
      ∙ (sym (map-append string_bytes given left) ∙ ap (map string_bytes) (sym whole)),
)
