-- The accepted lines that were not dropped: those that were taken, and then those that wait.
use Rattle.std.proofs.Common.{◌≡◌, ℕ, ◌+◌, ◌≤◌, ◌∙◌, List, [], ◌∷◌, ◌++◌, Option, length, drop, count_by, cond, refl, ap, arith}
use Rattle.std.proofs.lemmas.List.{append-nil, append_assoc, length-append}
use Rattle.std.proofs.lemmas.List.Concat.{flat_map-append}
use Rattle.std.proofs.lemmas.List.Sums.{sum_by-append, sum_by-cons}
use Rattle.cadence_queue.specs.QueueModel.{Exit, by_take, by_drop, is_take}
use Rattle.cadence_settings.specs.declared.call.Call.{Call}
use Rattle.cadence_schedule.specs.declared.steps.Step.TheVariants as step
use Rattle.cadence_schedule.specs.declared.steps.Reply.TheVariants as reply
use Rattle.cadence_schedule.specs.RunHistory.{Turn, without_dropped, taken_count, takes_text, drops_text, left_count, exits, exit_by}
use Rattle.cadence_schedule.specs.RunHistory.{accepted, accepted_by_turn, undropped_lines}
use Rattle.cadence_schedule.proofs.history.OneTurnMore.{accepted-push}

-- the elements that were taken
abbrev pub taken_of : {X : Type 0} → List X → List Exit → List X
taken_of [] es = []
taken_of (x ∷ xs) [] = []
taken_of (x ∷ xs) (by_take ∷ es) = x ∷ taken_of xs es
taken_of (x ∷ xs) (by_drop ∷ es) = taken_of xs es

-- The elements that were not dropped are those that were taken, and then the rest.
without_dropped_is : {X : Type 0} (xs : List X) (es : List Exit) → without_dropped xs es ≡ taken_of xs es ++ drop (length es) xs
without_dropped_is [] [] = refl
without_dropped_is [] (e ∷ es) = refl
without_dropped_is (x ∷ xs) [] = refl
without_dropped_is (x ∷ xs) (by_take ∷ es) = ap (λ l. x ∷ l) (without_dropped_is xs es)
without_dropped_is (x ∷ xs) (by_drop ∷ es) = without_dropped_is xs es

without_dropped-none : {X : Type 0} (xs : List X) → without_dropped xs [] ≡ xs
without_dropped-none [] = refl
without_dropped-none (x ∷ xs) = refl

-- A take drops no element.
without_dropped-take : {X : Type 0} (xs : List X) (es : List Exit) → without_dropped xs (es ++ by_take ∷ []) ≡ without_dropped xs es
without_dropped-take [] es = refl
without_dropped-take (x ∷ xs) [] = ap (λ l. x ∷ l) (without_dropped-none xs)
without_dropped-take (x ∷ xs) (by_take ∷ es) = ap (λ l. x ∷ l) (without_dropped-take xs es)
without_dropped-take (x ∷ xs) (by_drop ∷ es) = without_dropped-take xs es

-- If there are more elements and more exits, the elements that they take are added to those that were taken.
taken_of-more : {X : Type 0} (xs ys : List X) (es fs : List Exit) → length es ≤ length xs
    → taken_of (xs ++ ys) (es ++ fs) ≡ taken_of xs es ++ taken_of (drop (length es) xs ++ ys) fs
taken_of-more [] ys [] fs h = refl
taken_of-more [] ys (e ∷ es) fs h = absurd (omega arith)
taken_of-more (x ∷ xs) ys [] fs h = refl
taken_of-more (x ∷ xs) ys (by_take ∷ es) fs h = ap (λ l. x ∷ l) (taken_of-more xs ys es fs (omega arith))
taken_of-more (x ∷ xs) ys (by_drop ∷ es) fs h = taken_of-more xs ys es fs (omega arith)

-- As many elements were taken as there are exits by a take.
length-taken_of : {X : Type 0} (xs : List X) (es : List Exit) → length es ≤ length xs → length (taken_of xs es) ≡ count_by is_take es
length-taken_of [] [] h = refl
length-taken_of [] (e ∷ es) h = absurd (omega arith)
length-taken_of (x ∷ xs) [] h = refl
length-taken_of (x ∷ xs) (by_take ∷ es) h = omega (arith, length-taken_of xs es (omega arith), sum_by-cons (λ e. cond (is_take e) 1 0) by_take es)
length-taken_of (x ∷ xs) (by_drop ∷ es) h = omega (arith, length-taken_of xs es (omega arith), sum_by-cons (λ e. cond (is_take e) 1 0) by_drop es)

module _ {A : Type 0} where
  pub exits-push : (h : List (Turn A)) (t : Turn A) → exits (h ++ t ∷ []) ≡ exits h ++ exit_by t
  exits-push h t = flat_map-append exit_by h (t ∷ []) ∙ ap (λ l. exits h ++ l) (append-nil (exit_by t))

  exit_taken : (t : Turn A) → count_by is_take (exit_by t) ≡ cond (takes_text t) 1 0
  exit_taken (step.Take, reply.Text n) = refl
  exit_taken (step.Call call, reply.CallDropped n m) = refl
  exit_taken _ = refl

  exit_left : (t : Turn A) → length (exit_by t) ≡ cond (takes_text t) 1 0 + cond (drops_text t) 1 0
  exit_left (step.Take, reply.Text n) = refl
  exit_left (step.Call call, reply.CallDropped n m) = refl
  exit_left _ = refl

  exits_taken : (h : List (Turn A)) → count_by is_take (exits h) ≡ taken_count h
  exits_taken [] = refl
  exits_taken (t ∷ h) =
      omega (
        arith,
        sum_by-append (λ e. cond (is_take e) 1 0) (exit_by t) (exits h),
        exit_taken t,
        exits_taken h,
        sum_by-cons
            (λ u. cond (takes_text u) 1 0) t h,
      )

  -- There are as many exits as lines that were taken or dropped.
  pub exits_left : (h : List (Turn A)) → length (exits h) ≡ left_count h
  exits_left [] = refl
  exits_left (t ∷ h) =
      omega (
        arith,
        length-append (exit_by t) (exits h),
        exit_left t,
        exits_left h,
        sum_by-cons (λ u. cond (takes_text u) 1 0) t h,
        sum_by-cons (λ u. cond (drops_text u) 1 0) t h,
      )

module _ {A : Type 0} (line_of : Call A → Option (List ℕ)) where
  -- the lines that were taken
  abbrev pub out : List (Turn A) → List (List ℕ)
  out h = taken_of (accepted line_of h) (exits h)

  pub length-out : (h : List (Turn A)) → left_count h ≤ length (accepted line_of h) → length (out h) ≡ taken_count h
  length-out h within = length-taken_of (accepted line_of h) (exits h) (omega (arith, exits_left h)) ∙ exits_taken h

  -- The undropped lines are those that were taken, and then those that wait.
  pub undropped_lines_is : (h : List (Turn A)) → undropped_lines line_of h ≡ out h ++ drop (left_count h) (accepted line_of h)
  undropped_lines_is h = without_dropped_is (accepted line_of h) (exits h) ∙ ap (λ n. out h ++ drop n (accepted line_of h)) (exits_left h)

  -- A take does not change the undropped lines.
  pub undropped_lines-take : (h : List (Turn A)) (n : ℕ) → undropped_lines line_of (h ++ (step.Take, reply.Text n) ∷ []) ≡ undropped_lines line_of h
  undropped_lines-take h n =
      (λ i. without_dropped ((accepted-push line_of h (step.Take, reply.Text n)
      ∙ append-nil (accepted line_of h)) i) (exits-push h (step.Take, reply.Text n) i))
      ∙ without_dropped-take (accepted line_of h) (exits h)

  -- After one turn more, the lines that were taken still come first.
  pub undropped_lines-push : (h : List (Turn A)) (t : Turn A) → left_count h ≤ length (accepted line_of h)
      → (more : List (List ℕ)) × (undropped_lines line_of (h ++ t ∷ []) ≡ out h ++ more)
  undropped_lines-push h t within =
      let grown : out (h ++ t ∷ []) ≡ out h ++ taken_of (drop (length (exits h)) (accepted line_of h) ++ accepted_by_turn line_of t) (exit_by t) =
      (λ i. taken_of (accepted-push line_of h t i) (exits-push h t i))
      ∙ taken_of-more (accepted line_of h) (accepted_by_turn line_of t) (exits h) (exit_by t) (omega (arith, exits_left h)) in (
        taken_of (drop (length (exits h)) (accepted line_of h) ++ accepted_by_turn line_of t) (exit_by t) ++ drop (left_count (h ++ t ∷ []))
            (accepted line_of (h ++ t ∷ [])),
        undropped_lines_is (h ++ t ∷ [])
            ∙ ap (λ l. l ++ drop (left_count (h ++ t ∷ [])) (accepted line_of (h ++ t ∷ []))) grown
            ∙ append_assoc (out h) (taken_of (drop (length (exits h)) (accepted line_of h) ++ accepted_by_turn line_of t) (exit_by t))
            (drop (left_count (h ++ t ∷ [])) (accepted line_of (h ++ t ∷ []))),
      )
