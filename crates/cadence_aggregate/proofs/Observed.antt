-- What a server knows after two lists, from what it knows after each.
use Rattle.std.proofs.Common.{◌≡◌, ℕ, Bool, true, false, cond, List, [], ◌∷◌, ◌++◌, refl, sym, ap, subst, ◌∙◌, arith, ◌+◌, append_assoc, length-append, zero-add}
use Rattle.std.specs.Prelude.{◌+ℤ◌, ◌||◌}
use Rattle.std.proofs.lemmas.Int.{ints}
use Rattle.cadence_aggregate.specs.Server.{Sample, amount, level, member, timing, unclear, other, total, gauge, has_member, has_amount, has_level, times, others, Setting, set_to, set_by, replaces, later, IsSummary}

module _ (ours : List ℕ → Bool) where
  pub total-append : (xs ys : List Sample) → total ours (xs ++ ys) ≡ total ours xs +ℤ total ours ys
  total-append [] ys = omega (arith, ints)
  total-append (amount c n ∷ xs) ys = let h = total-append xs ys in omega (arith, ints)
  total-append (level c v ∷ xs) ys = total-append xs ys
  total-append (member c ∷ xs) ys = total-append xs ys
  total-append (timing c t ∷ xs) ys = total-append xs ys
  total-append (unclear l ∷ xs) ys = total-append xs ys
  total-append (other l ∷ xs) ys = total-append xs ys

  later_twice : (a : List Setting) (v : Setting) (vs : List Setting) (p : Bool)
      → replaces v ≡ p → later (later a []) (v ∷ vs) ≡ later a (later [] (v ∷ vs))
  later_twice a v vs true h = rw h (rw h refl)
  later_twice a v vs false h = rw h (rw h refl)

  later_more : (a : List Setting) (u : Setting) (us : List Setting) (v : Setting) (vs : List Setting) (q : Bool)
      → replaces u ≡ q → later a (u ∷ us) ++ v ∷ vs ≡ later a (u ∷ (us ++ v ∷ vs))
  later_more a u us v vs true h = rw h refl
  later_more a u us v vs false h = rw h (append_assoc a (u ∷ us) (v ∷ vs))

  later_cons : (a : List Setting) (u : Setting) (us : List Setting) (v : Setting) (vs : List Setting) (p : Bool)
      → replaces v ≡ p → later (later a (u ∷ us)) (v ∷ vs) ≡ later a (later (u ∷ us) (v ∷ vs))
  later_cons a u us v vs true h = rw h (rw h refl)
  later_cons a u us v vs false h = rw h (later_more a u us v vs (replaces u) refl)

  pub later_assoc : (a b c : List Setting) → later (later a b) c ≡ later a (later b c)
  later_assoc a b [] = refl
  later_assoc a [] (v ∷ vs) = later_twice a v vs (replaces v) refl
  later_assoc a (u ∷ us) (v ∷ vs) = later_cons a u us v vs (replaces v) refl

  none_before : (v : Setting) (vs : List Setting) (p : Bool) → replaces v ≡ p → later [] (v ∷ vs) ≡ v ∷ vs
  none_before v vs true h = rw h refl
  none_before v vs false h = rw h refl

  pub later_none : (a : List Setting) → later [] a ≡ a
  later_none [] = refl
  later_none (v ∷ vs) = none_before v vs (replaces v) refl

  pub gauge-append : (xs ys : List Sample) → gauge ours (xs ++ ys) ≡ later (gauge ours xs) (gauge ours ys)
  gauge-append [] ys = sym (later_none (gauge ours ys))
  gauge-append (amount c n ∷ xs) ys = gauge-append xs ys
  gauge-append (level c v ∷ xs) ys =
      let first = cond (ours c) (set_to v ∷ []) [] in
      ap (later first) (gauge-append xs ys) ∙ sym (later_assoc first (gauge ours xs) (gauge ours ys))
  gauge-append (member c ∷ xs) ys = gauge-append xs ys
  gauge-append (timing c t ∷ xs) ys = gauge-append xs ys
  gauge-append (unclear l ∷ xs) ys =
      let first = set_by l ∷ [] in
      ap (later first) (gauge-append xs ys) ∙ sym (later_assoc first (gauge ours xs) (gauge ours ys))
  gauge-append (other l ∷ xs) ys = gauge-append xs ys

  pub or_assoc : (a b c : Bool) → (a || b) || c ≡ a || (b || c)
  or_assoc true b c = refl
  or_assoc false b c = refl

  pub member-append : (xs ys : List Sample) → has_member ours (xs ++ ys) ≡ has_member ours xs || has_member ours ys
  member-append [] ys = refl
  member-append (amount c n ∷ xs) ys = member-append xs ys
  member-append (level c v ∷ xs) ys = member-append xs ys
  member-append (member c ∷ xs) ys = ap (λ b. ours c || b) (member-append xs ys) ∙ sym (or_assoc (ours c) (has_member ours xs) (has_member ours ys))
  member-append (timing c t ∷ xs) ys = member-append xs ys
  member-append (unclear l ∷ xs) ys = member-append xs ys
  member-append (other l ∷ xs) ys = member-append xs ys

  pub amount-append : (xs ys : List Sample) → has_amount ours (xs ++ ys) ≡ has_amount ours xs || has_amount ours ys
  amount-append [] ys = refl
  amount-append (amount c n ∷ xs) ys = ap (λ b. ours c || b) (amount-append xs ys) ∙ sym (or_assoc (ours c) (has_amount ours xs) (has_amount ours ys))
  amount-append (level c v ∷ xs) ys = amount-append xs ys
  amount-append (member c ∷ xs) ys = amount-append xs ys
  amount-append (timing c t ∷ xs) ys = amount-append xs ys
  amount-append (unclear l ∷ xs) ys = amount-append xs ys
  amount-append (other l ∷ xs) ys = amount-append xs ys

  pub times-append : (x : List ℕ) (xs ys : List Sample) → times ours x (xs ++ ys) ≡ times ours x xs + times ours x ys
  times-append x [] ys = sym (zero-add (times ours x ys))
  times-append x (amount c n ∷ xs) ys = times-append x xs ys
  times-append x (level c v ∷ xs) ys = times-append x xs ys
  times-append x (member c ∷ xs) ys = times-append x xs ys
  times-append x (timing c t ∷ xs) ys = let h = times-append x xs ys in omega arith
  times-append x (unclear l ∷ xs) ys = times-append x xs ys
  times-append x (other l ∷ xs) ys = times-append x xs ys

either_first : (a b c : Bool) → (a || b) || c ≡ a || (b || c)
either_first true b c = refl
either_first false b c = refl

pub others-append : (xs ys : List Sample) → others (xs ++ ys) ≡ others xs ++ others ys
others-append [] ys = refl
others-append (amount c n ∷ xs) ys = others-append xs ys
others-append (level c v ∷ xs) ys = others-append xs ys
others-append (member c ∷ xs) ys = others-append xs ys
others-append (timing c t ∷ xs) ys = others-append xs ys
others-append (unclear l ∷ xs) ys = ap (λ t. unclear l ∷ t) (others-append xs ys)
others-append (other l ∷ xs) ys = ap (λ t. other l ∷ t) (others-append xs ys)

pub level-append : (passes : List ℕ → List ℕ → Bool) (xs ys : List Sample) → has_level passes (xs ++ ys) ≡ has_level passes xs || has_level passes ys
level-append passes [] ys = refl
level-append passes (amount c n ∷ xs) ys = level-append passes xs ys
level-append passes (level c v ∷ xs) ys = ap (λ b. passes c v || b) (level-append passes xs ys) ∙ sym (either_first (passes c v) (has_level passes xs) (has_level passes ys))
level-append passes (member c ∷ xs) ys = level-append passes xs ys
level-append passes (timing c t ∷ xs) ys = level-append passes xs ys
level-append passes (unclear l ∷ xs) ys = level-append passes xs ys
level-append passes (other l ∷ xs) ys = level-append passes xs ys

or_before : (z a b : Bool) → (b ≡ true → a ≡ true) → z || b ≡ true → z || a ≡ true
or_before true a b f h = refl
or_before false a b f h = f h

or_after : (a b z : Bool) → (b ≡ true → a ≡ true) → b || z ≡ true → a || z ≡ true
or_after a true z f h = rw (f refl) refl
or_after true false z f h = refl
or_after false false z f h = h

or_drop : (a b : Bool) → b ≡ false → a || b ≡ true → a ≡ true
or_drop true b n h = refl
or_drop false b n h = sym n ∙ h

or_still : (a b : Bool) → a ≡ true → a || b ≡ true
or_still a b h = rw h refl

module _ (passes : List ℕ → List ℕ → Bool) where
  -- what no value of a gauge adds to, and what is said after more
  pub only_said : (said ys : List Sample) → has_level passes ys ≡ false → has_level passes (said ++ ys) ≡ true → has_level passes said ≡ true
  only_said said ys none h = or_drop (has_level passes said) (has_level passes ys) none (sym (level-append passes said ys) ∙ h)

  pub still_said : (said xs : List Sample) → has_level passes said ≡ true → has_level passes (said ++ xs) ≡ true
  still_said said xs h = level-append passes said xs ∙ or_still (has_level passes said) (has_level passes xs) h

  pub level_before : (zs xs ys : List Sample) → (has_level passes ys ≡ true → has_level passes xs ≡ true) → has_level passes (zs ++ ys) ≡ true → has_level passes (zs ++ xs) ≡ true
  level_before zs xs ys f h = level-append passes zs xs ∙ or_before (has_level passes zs) (has_level passes xs) (has_level passes ys) f (sym (level-append passes zs ys) ∙ h)

  pub level_after : (xs ys zs : List Sample) → (has_level passes ys ≡ true → has_level passes xs ≡ true) → has_level passes (ys ++ zs) ≡ true → has_level passes (xs ++ zs) ≡ true
  level_after xs ys zs f h = level-append passes xs zs ∙ or_after (has_level passes xs) (has_level passes ys) (has_level passes zs) f (sym (level-append passes ys zs) ∙ h)

pub same_refl : (xs : List Sample) → IsSummary xs xs
same_refl xs = record { totals = λ ours. refl; counters = λ ours. refl; gauges = λ ours. refl; members = λ ours. refl; timings = λ ours x. refl; rest = refl; values = λ passes h. h; fewer = omega arith }

pub same_of : (xs ys : List Sample) → xs ≡ ys → IsSummary xs ys
same_of xs ys e = subst (IsSummary xs) e (same_refl xs)

pub same_trans : (xs ys zs : List Sample) → IsSummary xs ys → IsSummary ys zs → IsSummary xs zs
same_trans xs ys zs a b = record {
  totals = λ ours. a.totals ours ∙ b.totals ours;
  counters = λ ours. a.counters ours ∙ b.counters ours;
  gauges = λ ours. a.gauges ours ∙ b.gauges ours;
  members = λ ours. a.members ours ∙ b.members ours;
  timings = λ ours x. a.timings ours x ∙ b.timings ours x;
  rest = a.rest ∙ b.rest;
  values = λ passes h. a.values passes (b.values passes h);
  fewer = let p = a.fewer in let q = b.fewer in omega arith;
}

-- what is the same stays so with more after it
pub same_more : (xs ys zs : List Sample) → IsSummary xs ys → IsSummary (xs ++ zs) (ys ++ zs)
same_more xs ys zs a = record {
  totals = λ ours. rw (total-append ours xs zs, total-append ours ys zs, a.totals ours) refl;
  counters = λ ours. rw (amount-append ours xs zs, amount-append ours ys zs, a.counters ours) refl;
  gauges = λ ours. rw (gauge-append ours xs zs, gauge-append ours ys zs, a.gauges ours) refl;
  members = λ ours. rw (member-append ours xs zs, member-append ours ys zs, a.members ours) refl;
  timings = λ ours x. rw (times-append ours x xs zs, times-append ours x ys zs, a.timings ours x) refl;
  rest = rw (others-append xs zs, others-append ys zs, a.rest) refl;
  values = λ passes. level_after passes xs ys zs (a.values passes);
  fewer = let p = a.fewer in let q = length-append xs zs in let r = length-append ys zs in omega arith;
}
