-- What the calls of a queue do to a queue that is at its end, and to one that drops no text.
use Rattle.std.proofs.Common.{◌≡◌, Bool, true, false, cond, List, [], ◌∷◌, ◌++◌, Option, Some, None, subst, ap, sym, ◌∙◌, refl, append_assoc}
use Rattle.std.proofs.Common.{◌≢◌, ◌-◌, length, arith}
use Rattle.std.specs.Prelude.{slice_get}
use mathlib.Core.List.{IsPrefix}
use Rattle.std.proofs.lemmas.List.{append-nil}
use Rattle.cadence_queue.specs.QueueState.{Queue, drops}
use Rattle.cadence_queue.specs.Queue.{Accepts, IsEnd, IsTaken, drops_for_room, without_handle}
use Rattle.cadence_queue.specs.QueueTaken.{text_if_taken}
use Rattle.cadence_queue.specs.declared.policy.QueuePolicy.{QueuePolicy}
use Rattle.cadence_queue.specs.declared.policy.QueuePolicy.TheVariants.{Refuse, DropOldest}
use Rattle.cadence_queue.specs.declared.queue_core.Taken.{Taken}
use Rattle.cadence_queue.specs.declared.queue_core.Taken.TheVariants.{Text, Empty, Ended}

still_true : (b c : Bool) → c ≡ true → cond b true c ≡ true
still_true true c is = refl
still_true false c is = is

module _ {T : Type 0} where
  -- A queue at its end accepts no text.
  pub end_refuses : {G : Type 0} (q : Queue T) (text : T) (dropped : Option T) (r : Queue T) → IsEnd q → Accepts q text dropped r → G
  end_refuses q text None r end step = let no : true ≡ false = sym end.0 ∙ step.0 in absurd cc
  end_refuses q text (Some oldest) r end step = let no : true ≡ false = sym end.0 ∙ step.0 in absurd cc

  -- A queue at its end stays there if a text is taken.
  pub end_takes : (q : Queue T) (answer : Taken T) (r : Queue T) → IsTaken q answer r → IsEnd q → IsEnd r
  end_takes q (Text text) r step end = let no : [] ≡ text ∷ r.waiting = sym end.1 ∙ step.0 in absurd cc
  end_takes q Empty r step end = subst IsEnd (sym step.2) end
  end_takes q Ended r step end = subst IsEnd (sym step.2) end

  end_either : (b : Bool) (q r : Queue T) → IsEnd q → IsEnd r → IsEnd (cond b q r)
  end_either true q r this other = this
  end_either false q r this other = other

  -- A queue at its end stays there if a handle goes.
  pub end_without_handle : (q : Queue T) → IsEnd q → IsEnd (without_handle q)
  end_without_handle q end = end_either _ q _ end (still_true _ _ end.0, end.1)

  drops_only : (p : QueuePolicy) (waiting : List T) (oldest : T) → drops_for_room p waiting ≡ Some oldest → drops p ≡ true
  drops_only Refuse waiting oldest is = absurd cc
  drops_only DropOldest waiting oldest is = refl

  -- In a queue that drops no text, each accepted text was taken or waits.
  abbrev pub IsWhole : List T → List T → Queue T → Type 0
  IsWhole accepted taken q = drops q.policy ≡ false → accepted ≡ taken ++ q.waiting

  pub whole_accepted : (accepted taken : List T) (q : Queue T) (text : T) (dropped : Option T) (r : Queue T) → Accepts q text dropped r
      → IsWhole accepted taken q → IsWhole (accepted ++ text ∷ []) taken r
  whole_accepted accepted taken q text None r step whole keeps =
      let is = step.2 in
      let had = whole (sym (ap (λ z. drops z.policy) is) ∙ keeps) in
      ap (λ l. l ++ text ∷ []) had ∙ (append_assoc taken q.waiting (text ∷ []) ∙ ap (λ w. taken ++ w) (sym (ap (λ z. z.waiting) is)))
  whole_accepted accepted taken q text (Some oldest) r step whole keeps =
      let drop : drops q.policy ≡ true = drops_only q.policy q.waiting oldest step.2 in
      let no : true ≡ false = sym drop ∙ (sym (ap (λ z. drops z.policy) step.3) ∙ keeps) in absurd cc

  pub whole_taken : (accepted taken : List T) (q : Queue T) (answer : Taken T) (r : Queue T) → IsTaken q answer r
      → IsWhole accepted taken q → IsWhole accepted (taken ++ text_if_taken answer) r
  whole_taken accepted taken q (Text text) r step whole keeps =
      whole (sym (ap (λ z. drops z.policy) step.1) ∙ keeps) ∙ (ap (λ w. taken ++ w) step.0 ∙ sym (append_assoc taken (text ∷ []) r.waiting))
  whole_taken accepted taken q Empty r step whole keeps =
      whole (sym (ap (λ z. drops z.policy) step.2) ∙ keeps) ∙ ap (λ w. taken ++ w) (sym (ap (λ z. z.waiting) step.2))
      ∙ ap (λ l. l ++ r.waiting) (sym (append-nil taken))
  whole_taken accepted taken q Ended r step whole keeps =
      whole (sym (ap (λ z. drops z.policy) step.2) ∙ keeps) ∙ ap (λ w. taken ++ w) (sym (ap (λ z. z.waiting) step.2))
      ∙ ap (λ l. l ++ r.waiting) (sym (append-nil taken))

  whole_either : (accepted taken : List T) (b : Bool) (q r : Queue T) → IsWhole accepted taken q → IsWhole accepted taken r
      → IsWhole accepted taken (cond b q r)
  whole_either accepted taken true q r this other = this
  whole_either accepted taken false q r this other = other

  pub whole_without_handle : (accepted taken : List T) (q : Queue T) → IsWhole accepted taken q → IsWhole accepted taken (without_handle q)
  whole_without_handle accepted taken q whole = whole_either accepted taken _ q _ whole whole

  last_of : {G : Type 0} (x : T) (xs : List T) → slice_get (x ∷ xs) (length xs) ≡ None → G
  last_of x [] none = absurd cc
  last_of x (y ∷ ys) none = last_of y ys none

  -- A list that is not empty has a last item.
  pub has_last : {G : Type 0} (xs : List T) → xs ≢ [] → slice_get xs (length xs - 1) ≡ None → G
  has_last [] some none = absurd (some refl)
  has_last (x ∷ xs) some none =
      let last : length xs ≡ length (x ∷ xs) - 1 = omega arith in
      last_of x xs (ap (λ n. slice_get (x ∷ xs) n) last ∙ none)

  -- What begins with some items has some.
  pub some_longer : (xs ys : List T) → IsPrefix xs ys → xs ≢ [] → ys ≢ []
  some_longer [] ys begins some none = some refl
  some_longer (x ∷ xs) ys begins some none = let no : x ∷ (xs ++ begins.0) ≡ [] = begins.1 ∙ none in absurd cc
