-- Which samples are in a list, from what a server knows after it.
use Rattle.std.proofs.Common.{◌≡◌, ◌<◌, ◌⊎◌, inl, inr, ℕ, ℤ, ◌+◌, Bool, true, false, cond, List, [], ◌∷◌, ◌++◌, refl, sym, ap, ap₂, subst, ◌∙◌, arith}
use Rattle.std.specs.Prelude.{◌||◌, ◌&&◌, count_by, nat_eq}
use Rattle.std.specs.Cmp.Lexicographic.{pointwise, bytes_decides}
use Rattle.std.proofs.lemmas.Bool.{cases_lt}
use Rattle.std.proofs.lemmas.List.Sums.{sum_by-cons}
use Rattle.cadence_aggregate.specs.Server.{Sample, amount, level, member, timing, unclear, other, has_amount, has_level, has_member, others, times, times_in, values_in}
use Rattle.cadence_aggregate.proofs.Observed.{amount-append, level-append, member-append, others-append, times-append}

-- The element is in the list.
abbrev pub Among : {X : Type 0} → X → List X → Type 0
Among x [] = ⊥
Among x (y ∷ ys) = (y ≡ x) ⊎ Among x ys

among_right : {X : Type 0} (x : X) (xs ys : List X) → Among x ys → Among x (xs ++ ys)
among_right x [] ys h = h
among_right x (y ∷ xs) ys h = inr (among_right x xs ys h)

abbrev pub is : List ℕ → List ℕ → Bool
is = pointwise nat_eq

pub itself : (c : List ℕ) → is c c ≡ true
itself c = (bytes_decides c c).1 refl

same_texts : (c d : List ℕ) → is c d ≡ true → d ≡ c
same_texts c d h = sym ((bytes_decides c d).0 h)

or_first : (a b : Bool) → a ≡ true → a || b ≡ true
or_first a b h = rw h refl

or_second : (a b : Bool) → b ≡ true → a || b ≡ true
or_second true b h = refl
or_second false b h = h

-- counters
pub amount_shown : (c : List ℕ) (n : ℤ) (xs : List Sample) → Among (amount c n) xs → has_amount (is c) xs ≡ true
amount_shown c n [] h = absurd h
amount_shown c n (x ∷ xs) (inl same) = subst (λ t. has_amount (is c) (t ∷ xs) ≡ true) (sym same) (or_first (is c c) (has_amount (is c) xs) (itself c))
amount_shown c n (x ∷ xs) (inr later) =
    amount-append (is c) (x ∷ []) xs ∙ or_second (has_amount (is c) (x ∷ [])) (has_amount (is c) xs) (amount_shown c n xs later)

pub amount_found : (c : List ℕ) (xs : List Sample) → has_amount (is c) xs ≡ true → (k : ℤ) × Among (amount c k) xs
amount_found c [] h = cc
amount_found c (amount d n ∷ xs) h = (elim (is c d) as (λ b. is c d ≡ b → (b || has_amount (is c) xs) ≡ true → (k : ℤ) × Among (amount c k) (amount d n ∷ xs)) [
  | true ↦ λ e t. (n, inl (ap (λ s. amount s n) (same_texts c d e)))
  | false ↦ λ e t. let r = amount_found c xs t in (r.0, inr r.1)
]) refl h
amount_found c (level d v ∷ xs) h = let r = amount_found c xs h in (r.0, inr r.1)
amount_found c (member d ∷ xs) h = let r = amount_found c xs h in (r.0, inr r.1)
amount_found c (timing d t ∷ xs) h = let r = amount_found c xs h in (r.0, inr r.1)
amount_found c (unclear l ∷ xs) h = let r = amount_found c xs h in (r.0, inr r.1)
amount_found c (other l ∷ xs) h = let r = amount_found c xs h in (r.0, inr r.1)

-- gauges
abbrev pub is_level : List ℕ → List ℕ → List ℕ → List ℕ → Bool
is_level c v d w = is c d && is v w

pub level_shown : (c v : List ℕ) (xs : List Sample) → Among (level c v) xs → has_level (is_level c v) xs ≡ true
level_shown c v [] h = absurd h
level_shown c v (x ∷ xs) (inl same) =
    let both : is_level c v c v ≡ true = rw (itself c, itself v) refl in
    subst (λ t. has_level (is_level c v) (t ∷ xs) ≡ true) (sym same) (or_first (is_level c v c v) (has_level (is_level c v) xs) both)
level_shown c v (x ∷ xs) (inr later) =
    level-append (is_level c v) (x ∷ []) xs ∙ or_second (has_level (is_level c v) (x ∷ [])) (has_level (is_level c v) xs) (level_shown c v xs later)

both_true : (a b : Bool) → a && b ≡ true → (a ≡ true) × (b ≡ true)
both_true true b h = (refl, h)
both_true false b h = cc

pub level_found : (c v : List ℕ) (xs : List Sample) → has_level (is_level c v) xs ≡ true → Among (level c v) xs
level_found c v [] h = cc
level_found c v (amount d n ∷ xs) h = inr (level_found c v xs h)
level_found c v (level d w ∷ xs) h = (elim (is_level c v d w) as (λ b. is_level c v d w ≡ b → (b || has_level (is_level c v) xs) ≡ true → Among (level c v) (level d w ∷ xs)) [
  | true ↦ λ e t. let (one, two) = both_true (is c d) (is v w) e in inl (ap₂ level (same_texts c d one) (same_texts v w two))
  | false ↦ λ e t. inr (level_found c v xs t)
]) refl h
level_found c v (member d ∷ xs) h = inr (level_found c v xs h)
level_found c v (timing d t ∷ xs) h = inr (level_found c v xs h)
level_found c v (unclear l ∷ xs) h = inr (level_found c v xs h)
level_found c v (other l ∷ xs) h = inr (level_found c v xs h)

-- sets
pub member_shown : (c : List ℕ) (xs : List Sample) → Among (member c) xs → has_member (is c) xs ≡ true
member_shown c [] h = absurd h
member_shown c (x ∷ xs) (inl same) = subst (λ t. has_member (is c) (t ∷ xs) ≡ true) (sym same) (or_first (is c c) (has_member (is c) xs) (itself c))
member_shown c (x ∷ xs) (inr later) =
    member-append (is c) (x ∷ []) xs ∙ or_second (has_member (is c) (x ∷ [])) (has_member (is c) xs) (member_shown c xs later)

pub member_found : (c : List ℕ) (xs : List Sample) → has_member (is c) xs ≡ true → Among (member c) xs
member_found c [] h = cc
member_found c (amount d n ∷ xs) h = inr (member_found c xs h)
member_found c (level d v ∷ xs) h = inr (member_found c xs h)
member_found c (member d ∷ xs) h = (elim (is c d) as (λ b. is c d ≡ b → (b || has_member (is c) xs) ≡ true → Among (member c) (member d ∷ xs)) [
  | true ↦ λ e t. inl (ap member (same_texts c d e))
  | false ↦ λ e t. inr (member_found c xs t)
]) refl h
member_found c (timing d t ∷ xs) h = inr (member_found c xs h)
member_found c (unclear l ∷ xs) h = inr (member_found c xs h)
member_found c (other l ∷ xs) h = inr (member_found c xs h)

-- other lines
pub unclear_shown : (l : List ℕ) (xs : List Sample) → Among (unclear l) xs → Among (unclear l) (others xs)
unclear_shown l [] h = absurd h
unclear_shown l (x ∷ xs) (inl same) = subst (λ t. Among (unclear l) (others (t ∷ xs))) (sym same) (inl refl)
unclear_shown l (x ∷ xs) (inr later) =
    subst (Among (unclear l)) (sym (others-append (x ∷ []) xs)) (among_right (unclear l) (others (x ∷ [])) (others xs) (unclear_shown l xs later))

pub other_shown : (l : List ℕ) (xs : List Sample) → Among (other l) xs → Among (other l) (others xs)
other_shown l [] h = absurd h
other_shown l (x ∷ xs) (inl same) = subst (λ t. Among (other l) (others (t ∷ xs))) (sym same) (inl refl)
other_shown l (x ∷ xs) (inr later) =
    subst (Among (other l)) (sym (others-append (x ∷ []) xs)) (among_right (other l) (others (x ∷ [])) (others xs) (other_shown l xs later))

pub rest_found : (s : Sample) (xs : List Sample) → Among s (others xs) → Among s xs
rest_found s [] h = absurd h
rest_found s (amount d n ∷ xs) h = inr (rest_found s xs h)
rest_found s (level d v ∷ xs) h = inr (rest_found s xs h)
rest_found s (member d ∷ xs) h = inr (rest_found s xs h)
rest_found s (timing d t ∷ xs) h = inr (rest_found s xs h)
rest_found s (unclear m ∷ xs) (inl same) = inl same
rest_found s (unclear m ∷ xs) (inr later) = inr (rest_found s xs later)
rest_found s (other m ∷ xs) (inl same) = inl same
rest_found s (other m ∷ xs) (inr later) = inr (rest_found s xs later)

-- values
count_cons : (x v : List ℕ) (vs : List (List ℕ)) → count_by (is x) (v ∷ vs) ≡ cond {A = ℕ} (is x v) 1 0 + count_by (is x) vs
count_cons x v vs = sum_by-cons (λ y. cond {A = ℕ} (is x y) 1 0) v vs

counted : (x : List ℕ) (vs : List (List ℕ)) → Among x vs → 0 < count_by (is x) vs
counted x [] h = absurd h
counted x (v ∷ vs) (inl same) =
    let one : cond {A = ℕ} (is x v) 1 0 ≡ 1 = ap (λ t. cond {A = ℕ} (is x t) 1 0) same ∙ ap (λ b. cond {A = ℕ} b 1 0) (itself x) in
    omega (arith, count_cons x v vs, one)
counted x (v ∷ vs) (inr later) = let h = counted x vs later in omega (arith, count_cons x v vs, h)

uncounted : (x : List ℕ) (vs : List (List ℕ)) → 0 < count_by (is x) vs → Among x vs
uncounted x [] h = absurd (omega (arith, h))
uncounted x (v ∷ vs) h = (elim (is x v) as (λ b. is x v ≡ b → 0 < cond {A = ℕ} b 1 0 + count_by (is x) vs → Among x (v ∷ vs)) [
  | true ↦ λ e t. inl (same_texts x v e)
  | false ↦ λ e t. inr (uncounted x vs (omega (arith, t)))
]) refl (subst (λ n. 0 < n) (count_cons x v vs) h)

pub timing_shown : (c t x : List ℕ) (xs : List Sample) → Among (timing c t) xs → Among x (values_in t) → 0 < times (is c) x xs
timing_shown c t x [] h value = absurd h
timing_shown c t x (y ∷ xs) (inl same) value =
    let here : 0 < times (is c) x (timing c t ∷ xs) =
    (let some = counted x (values_in t) value in
    let one : cond {A = ℕ} (is c c) (times_in x t) 0 ≡ times_in x t = ap (λ b. cond {A = ℕ} b (times_in x t) 0) (itself c) in
    omega (arith, some, one)) in
    subst (λ s. 0 < times (is c) x (s ∷ xs)) (sym same) here
timing_shown c t x (y ∷ xs) (inr later) value =
    let h = timing_shown c t x xs later value in
    let both = times-append (is c) x (y ∷ []) xs in
    omega (arith, h, both)

-- a line with the value
abbrev pub HasValue : List ℕ → List ℕ → List Sample → Type 0
HasValue c x xs = (t : List ℕ) × Among (timing c t) xs × Among x (values_in t)

more_values : (c x : List ℕ) (y : Sample) (xs : List Sample) → HasValue c x xs → HasValue c x (y ∷ xs)
more_values c x y xs (t, among, value) = (t, inr among, value)

pub timing_found : (c x : List ℕ) (xs : List Sample) → 0 < times (is c) x xs → HasValue c x xs
timing_found c x [] h = absurd (omega (arith, h))
timing_found c x (amount d n ∷ xs) h = more_values c x (amount d n) xs (timing_found c x xs h)
timing_found c x (level d v ∷ xs) h = more_values c x (level d v) xs (timing_found c x xs h)
timing_found c x (member d ∷ xs) h = more_values c x (member d) xs (timing_found c x xs h)
timing_found c x (timing d t ∷ xs) h = (elim (is c d) as (λ b. is c d ≡ b → 0 < cond {A = ℕ} b (times_in x t) 0 + times (is c) x xs → HasValue c x (timing d t ∷ xs)) [
  | true ↦ λ e s. elim (cases_lt 0 (times_in x t)) [
    | inl some ↦ (t, inl (ap (λ y. timing y t) (same_texts c d e)), uncounted x (values_in t) some)
    | inr none ↦ more_values c x (timing d t) xs (timing_found c x xs (omega (arith, s, none)))
  ]
  | false ↦ λ e s. more_values c x (timing d t) xs (timing_found c x xs (omega (arith, s)))
]) refl h
timing_found c x (unclear l ∷ xs) h = more_values c x (unclear l) xs (timing_found c x xs h)
timing_found c x (other l ∷ xs) h = more_values c x (other l) xs (timing_found c x xs h)
