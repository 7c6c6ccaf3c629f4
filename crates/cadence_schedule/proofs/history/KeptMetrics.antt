-- The kept lines are the lines of the kept metrics, and what is true of each accepted metric is true of each kept one.
use Rattle.std.proofs.Common.{◌≡◌, ℕ, List, [], ◌∷◌, ◌++◌, Option, Some, None, Ok, refl, sym, ap, ◌∙◌, map}
use Rattle.std.specs.Prelude.{All, IfSome}
use Rattle.std.specs.List.{AllByRecursion}
use Rattle.std.specs.Option.{option_map, option_to_list}
use Rattle.std.proofs.lemmas.List.{map-append}
use Rattle.std.proofs.lemmas.List.Elements.{All-append, All-nil, All-cons, All-from_recursion, recursion_from_All}
use Rattle.cadence_queue.specs.QueueModel.{Exit, by_take, by_drop}
use Rattle.cadence_settings.specs.declared.call.Call.{Call}
use Rattle.cadence_schedule.specs.declared.steps.Step.TheVariants as step
use Rattle.cadence_schedule.specs.declared.steps.Reply.TheVariants as reply
use Rattle.cadence_schedule.specs.RunHistory.{Turn, with_answers, without_dropped, outcomes, exits, accepted, accepted_by_turn, undropped_lines, kept}

module _ {X Y : Type 0} (f : X → Y) where
  option_mapped : (o : Option X) → option_to_list (option_map f o) ≡ map f (option_to_list o)
  option_mapped None = refl
  option_mapped (Some x) = refl

  undropped_mapped : (xs : List X) (es : List Exit) → without_dropped (map f xs) es ≡ map f (without_dropped xs es)
  undropped_mapped [] es = refl
  undropped_mapped (x ∷ xs) [] = refl
  undropped_mapped (x ∷ xs) (by_take ∷ es) = ap (λ l. f x ∷ l) (undropped_mapped xs es)
  undropped_mapped (x ∷ xs) (by_drop ∷ es) = undropped_mapped xs es

  answered_mapped : (xs : List X) (answers : List (Option ℕ))
      → with_answers (map f xs) answers ≡ map (λ (k : X × ℕ). (f k.0, k.1)) (with_answers xs answers)
  answered_mapped [] answers = refl
  answered_mapped (x ∷ xs) [] = refl
  answered_mapped (x ∷ xs) (Some n ∷ answers) = ap (λ l. (f x, n) ∷ l) (answered_mapped xs answers)
  answered_mapped (x ∷ xs) (None ∷ answers) = answered_mapped xs answers

  firsts_mapped : (ks : List (X × ℕ)) → map (λ (k : Y × ℕ). k.0) (map (λ (k : X × ℕ). (f k.0, k.1)) ks) ≡ map f (map (λ (k : X × ℕ). k.0) ks)
  firsts_mapped [] = refl
  firsts_mapped (k ∷ ks) = ap (λ l. f k.0 ∷ l) (firsts_mapped ks)

  module _ {A : Type 0} (of : Call A → Option X) where
    turn_mapped : (t : Turn A) → accepted_by_turn (λ c. option_map f (of c)) t ≡ map f (accepted_by_turn of t)
    turn_mapped (step.Call call, reply.Called (Ok n)) = option_mapped (of call)
    turn_mapped (step.Call call, reply.CallDropped n m) = option_mapped (of call)
    turn_mapped _ = refl

    accepted_mapped : (h : List (Turn A)) → accepted (λ c. option_map f (of c)) h ≡ map f (accepted of h)
    accepted_mapped [] = refl
    accepted_mapped (t ∷ h) = (λ i. turn_mapped t i ++ accepted_mapped h i) ∙ sym (map-append f (accepted_by_turn of t) (accepted of h))

    pub kept_mapped : (h : List (Turn A)) → kept (λ c. option_map f (of c)) h ≡ map f (kept of h)
    kept_mapped h =
        ap (λ xs. map (λ (k : Y × ℕ). k.0) (with_answers xs (outcomes h))) (ap (λ xs. without_dropped xs (exits h)) (accepted_mapped h)
        ∙ undropped_mapped (accepted of h) (exits h))
        ∙ ap (map (λ (k : Y × ℕ). k.0)) (answered_mapped (undropped_lines of h) (outcomes h))
        ∙ firsts_mapped (with_answers (undropped_lines of h) (outcomes h))

module _ {X : Type 0} (P : X → Type 0) where
  -- What is true of a metric, if there is one, is true of each element of the list of that metric.
  pub all_of_option : (o : Option X) → IfSome o P → All P (option_to_list o)
  all_of_option (Some x) h = All-cons P x [] h (All-nil P)
  all_of_option None h = All-nil P

  each_answered : (xs : List X) (answers : List (Option ℕ)) → AllByRecursion P xs
      → AllByRecursion P (map (λ (k : X × ℕ). k.0) (with_answers xs answers))
  each_answered [] answers h = tt
  each_answered (x ∷ xs) [] h = tt
  each_answered (x ∷ xs) (Some n ∷ answers) (h, hs) = (h, each_answered xs answers hs)
  each_answered (x ∷ xs) (None ∷ answers) (h, hs) = each_answered xs answers hs

  -- What is true of each element is true of each one that was not dropped.
  each_undropped : (xs : List X) (exits : List Exit) → AllByRecursion P xs → AllByRecursion P (without_dropped xs exits)
  each_undropped [] exits h = tt
  each_undropped (x ∷ xs) [] h = h
  each_undropped (x ∷ xs) (by_take ∷ exits) (h, hs) = (h, each_undropped xs exits hs)
  each_undropped (x ∷ xs) (by_drop ∷ exits) (h, hs) = each_undropped xs exits hs

  pub all_kept : {A : Type 0} (of : Call A → Option X) (h : List (Turn A)) → All P (accepted of h) → All P (kept of h)
  all_kept of h all =
      All-from_recursion P (kept of h) (each_answered (undropped_lines of h) (outcomes h)
      (each_undropped (accepted of h) (exits h) (recursion_from_All P (accepted of h) all)))

  -- what holds for the metric of each call, if it has one, holds for each accepted metric
  turn_accepts : {A : Type 0} (of : Call A → Option X) → ((c : Call A) → IfSome (of c) P) → (t : Turn A) → All P (accepted_by_turn of t)
  turn_accepts of each (step.Call call, reply.Called (Ok n)) = all_of_option (of call) (each call)
  turn_accepts of each (step.Call call, reply.CallDropped n m) = all_of_option (of call) (each call)
  turn_accepts of each _ = All-nil P

  pub all_accepted : {A : Type 0} (of : Call A → Option X) → ((c : Call A) → IfSome (of c) P) → (h : List (Turn A)) → All P (accepted of h)
  all_accepted of each [] = All-nil P
  all_accepted of each (t ∷ h) =
      All-append P (accepted_by_turn of t) (accepted of h) (turn_accepts of each t) (all_accepted of each h)
