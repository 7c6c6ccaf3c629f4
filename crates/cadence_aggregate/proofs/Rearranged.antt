-- Lists after which a server knows the same.
use Rattle.std.specs.Prelude.{String}
use Rattle.std.proofs.Common.{◌≡◌, ℕ, Bool, true, false, List, [], ◌++◌, length, refl, sym, ap, subst, ◌∙◌, arith, append_assoc, append-nil, length-append}
use Rattle.std.specs.Prelude.{ℤ, ◌≤◌, ◌||◌, Result, Ok, Err, OnOk, OnErr}
use Rattle.cadence_aggregate.specs.Held.{held_sums, held_levels, held_members, held_timings}
use Rattle.cadence_aggregate.proofs.Rewrites.{sums_levels, members_levels, timings_levels, sums_others, levels_others, members_others, timings_others}
use Rattle.std.proofs.lemmas.Int.{ints}
use Rattle.cadence_aggregate.specs.Server.{Sample, gauge, has_member, has_amount, has_level, others, IsSummary}
use Rattle.cadence_aggregate.proofs.Observed.{total-append, gauge-append, member-append, times-append, amount-append, others-append, level-append, level_before, later_none, same_of, same_trans, same_more}

-- what is the same stays so with more before it
pub same_before : (zs xs ys : List Sample) → IsSummary xs ys → IsSummary (zs ++ xs) (zs ++ ys)
same_before zs xs ys a = record {
  totals = λ ours. rw (total-append ours zs xs, total-append ours zs ys, a.totals ours) refl;
  counters = λ ours. rw (amount-append ours zs xs, amount-append ours zs ys, a.counters ours) refl;
  gauges = λ ours. rw (gauge-append ours zs xs, gauge-append ours zs ys, a.gauges ours) refl;
  members = λ ours. rw (member-append ours zs xs, member-append ours zs ys, a.members ours) refl;
  timings = λ ours x. rw (times-append ours x zs xs, times-append ours x zs ys, a.timings ours x) refl;
  rest = rw (others-append zs xs, others-append zs ys, a.rest) refl;
  values = λ passes. level_before passes zs xs ys (a.values passes);
  fewer = let p = a.fewer in let q = length-append zs xs in let r = length-append zs ys in omega arith;
}

or_comm : (a b : Bool) → a || b ≡ b || a
or_comm true true = refl
or_comm true false = refl
or_comm false true = refl
or_comm false false = refl

swap_levels : (xs ys : List Sample) (passes : List ℕ → List ℕ → Bool) → has_level passes (ys ++ xs) ≡ true → has_level passes (xs ++ ys) ≡ true
swap_levels xs ys passes h = level-append passes xs ys ∙ or_comm (has_level passes xs) (has_level passes ys) ∙ sym (level-append passes ys xs) ∙ h

-- The order of these lines and of others doesn't matter: no gauge is set, and none is an other line.
abbrev pub HasNoOrder : List Sample → Type 0
HasNoOrder xs = ((ours : List ℕ → Bool) → gauge ours xs ≡ []) × (others xs ≡ [])

-- a list that sets no gauge may come before or after
commute_by : (xs ys : List Sample) → ((ours : List ℕ → Bool) → gauge ours xs ≡ []) → others (xs ++ ys) ≡ others (ys ++ xs) → IsSummary (xs ++ ys) (ys ++ xs)
commute_by xs ys off same = record {
  totals = λ ours. let a = total-append ours xs ys in let b = total-append ours ys xs in omega (arith, ints);
  counters = λ ours. amount-append ours xs ys ∙ or_comm (has_amount ours xs) (has_amount ours ys) ∙ sym (amount-append ours ys xs);
  gauges = λ ours. rw (gauge-append ours xs ys, gauge-append ours ys xs, off ours) (later_none ours (gauge ours ys));
  members = λ ours. member-append ours xs ys ∙ or_comm (has_member ours xs) (has_member ours ys) ∙ sym (member-append ours ys xs);
  timings = λ ours x. let a = times-append ours x xs ys in let b = times-append ours x ys xs in omega arith;
  rest = same;
  values = swap_levels xs ys;
  fewer = let q = length-append xs ys in let r = length-append ys xs in omega arith;
}

pass_others : (xs ys : List Sample) → others xs ≡ [] → others (xs ++ ys) ≡ others (ys ++ xs)
pass_others xs ys none =
    let a : others (xs ++ ys) ≡ others ys = others-append xs ys ∙ ap (λ t. t ++ others ys) none in
    let b : others (ys ++ xs) ≡ others ys = others-append ys xs ∙ ap (λ t. others ys ++ t) none ∙ append-nil (others ys) in
    a ∙ sym b

pub commute : (xs ys : List Sample) → HasNoOrder xs → IsSummary (xs ++ ys) (ys ++ xs)
commute xs ys off = commute_by xs ys off.0 (pass_others xs ys off.1)

turned : (xs ys : List Sample) → IsSummary xs ys → ((passes : List ℕ → List ℕ → Bool) → has_level passes xs ≡ true → has_level passes ys ≡ true)
    → length xs ≤ length ys → IsSummary ys xs
turned xs ys same back few = record {
  totals = λ ours. sym (same.totals ours);
  counters = λ ours. sym (same.counters ours);
  gauges = λ ours. sym (same.gauges ours);
  members = λ ours. sym (same.members ours);
  timings = λ ours x. sym (same.timings ours x);
  rest = sym same.rest;
  values = back;
  fewer = few;
}

pub commute_back : (xs ys : List Sample) → HasNoOrder xs → IsSummary (ys ++ xs) (xs ++ ys)
commute_back xs ys off =
    let q = length-append xs ys in let r = length-append ys xs in
    turned (xs ++ ys) (ys ++ xs) (commute xs ys off) (swap_levels ys xs) (omega arith)

-- what is the same for one table is so for all
module _ (s s' p h h' q x : List Sample) (same : IsSummary ((s ++ h) ++ x) (s' ++ h'))
    (c1 : IsSummary (q ++ x) (x ++ q)) (c2 : IsSummary (p ++ (h ++ x)) ((h ++ x) ++ p)) (c3 : IsSummary (h' ++ p) (p ++ h')) where
  one : IsSummary ((s ++ (p ++ (h ++ q))) ++ x) (((s ++ p) ++ h) ++ (x ++ q))
  one = same_trans _ _ _ (same_of ((s ++ (p ++ (h ++ q))) ++ x) (((s ++ p) ++ h) ++ (q ++ x)) (simp append_assoc)) (same_before ((s ++ p) ++ h) (q ++ x) (x ++ q) c1)

  two : IsSummary (((s ++ p) ++ h) ++ (x ++ q)) (((s ++ h) ++ x) ++ (p ++ q))
  two = same_trans _ _ _ (same_of (((s ++ p) ++ h) ++ (x ++ q)) ((s ++ (p ++ (h ++ x))) ++ q) (simp append_assoc))
      (same_trans _ _ _ (same_more (s ++ (p ++ (h ++ x))) (s ++ ((h ++ x) ++ p)) q (same_before s (p ++ (h ++ x)) ((h ++ x) ++ p) c2))
      (same_of ((s ++ ((h ++ x) ++ p)) ++ q) (((s ++ h) ++ x) ++ (p ++ q)) (simp append_assoc)))

  three : IsSummary (((s ++ h) ++ x) ++ (p ++ q)) (s' ++ (p ++ (h' ++ q)))
  three = same_trans _ _ _ (same_more ((s ++ h) ++ x) (s' ++ h') (p ++ q) same)
      (same_trans _ _ _ (same_of ((s' ++ h') ++ (p ++ q)) ((s' ++ (h' ++ p)) ++ q) (simp append_assoc))
      (same_trans _ _ _ (same_more (s' ++ (h' ++ p)) (s' ++ (p ++ h')) q (same_before s' (h' ++ p) (p ++ h') c3))
      (same_of ((s' ++ (p ++ h')) ++ q) (s' ++ (p ++ (h' ++ q))) (simp append_assoc))))

  pub middle : IsSummary ((s ++ (p ++ (h ++ q))) ++ x) (s' ++ (p ++ (h' ++ q)))
  middle = same_trans _ _ _ one (same_trans _ _ _ two three)

with_nil : (xs ys : List Sample) → IsSummary xs ys → IsSummary (xs ++ []) ys
with_nil xs ys a = subst (λ zs. IsSummary zs ys) (sym (append-nil xs)) a

pub without_nil : (xs ys : List Sample) → IsSummary (xs ++ []) ys → IsSummary xs ys
without_nil xs ys a = subst (λ zs. IsSummary zs ys) (append-nil xs) a

nil_same : (xs : List Sample) → IsSummary xs (xs ++ [])
nil_same xs = same_of xs (xs ++ []) (sym (append-nil xs))

same_nil : (xs : List Sample) → IsSummary (xs ++ []) xs
same_nil xs = same_of (xs ++ []) xs (append-nil xs)

pub both_none : (xs ys : List Sample) → HasNoOrder xs → HasNoOrder ys → HasNoOrder (xs ++ ys)
both_none xs ys a b = ((λ ours. rw (gauge-append ours xs ys, a.0 ours, b.0 ours) refl), others-append xs ys ∙ rw (a.1, b.1) refl)

module _ {Z : Type 0} where
  pub loose_sums : (es : List (String Z × ℤ)) → HasNoOrder (held_sums es)
  loose_sums es = ((λ ours. sums_levels ours es), sums_others es)

  pub loose_members : (es : List (String Z × Unit {0})) → HasNoOrder (held_members es)
  loose_members es = ((λ ours. members_levels ours es), members_others es)

  pub loose_timings : (es : List (String Z × String Z)) → HasNoOrder (held_timings es)
  loose_timings es = ((λ ours. timings_levels ours es), timings_others es)

module _ {Z : Type 0} (s s' : List Sample) (ss : List (String Z × ℤ)) (ls : List (String Z × String Z)) (ms : List (String Z × Unit {0})) (ts : List (String Z × String Z)) where
  abbrev all_of : List Sample → List Sample → List Sample → List Sample → List Sample
  all_of a b c d = a ++ (b ++ (c ++ d))

  abbrev all : List Sample
  all = all_of (held_sums ss) (held_levels ls) (held_members ms) (held_timings ts)

  -- what a table holds, in the midst of the others
  inner : (p h h' q x rest rest' : List Sample) → IsSummary ((s ++ (p ++ (h ++ q))) ++ x) (s' ++ (p ++ (h' ++ q))) → rest ≡ p ++ (h ++ q) → rest' ≡ p ++ (h' ++ q) → IsSummary ((s ++ rest) ++ x) (s' ++ rest')
  inner p h h' q x rest rest' same e f = rw (e, f) same

  pub sums_said : (new : List (String Z × ℤ)) (x : List Sample) → HasNoOrder x → IsSummary ((s ++ held_sums ss) ++ x) (s' ++ held_sums new)
      → IsSummary ((s ++ all) ++ x) (s' ++ all_of (held_sums new) (held_levels ls) (held_members ms) (held_timings ts))
  sums_said new x off same = let q = held_levels ls ++ (held_members ms ++ held_timings ts) in middle s s' [] (held_sums ss) (held_sums new) q x same
      (commute_back x q off) (nil_same (held_sums ss ++ x)) (same_nil (held_sums new))

  pub levels_said : (new : List (String Z × String Z)) (x : List Sample) → IsSummary ((s ++ held_levels ls) ++ x) (s' ++ held_levels new)
      → IsSummary ((s ++ all) ++ x) (s' ++ all_of (held_sums ss) (held_levels new) (held_members ms) (held_timings ts))
  levels_said new x same = let q = held_members ms ++ held_timings ts in middle s s' (held_sums ss) (held_levels ls) (held_levels new) q x same
      (commute q x (both_none (held_members ms) (held_timings ts) (loose_members ms) (loose_timings ts)))
      (commute (held_sums ss) (held_levels ls ++ x) (loose_sums ss)) (commute_back (held_sums ss) (held_levels new) (loose_sums ss))

  pub members_said : (new : List (String Z × Unit {0})) (x : List Sample) → HasNoOrder x → IsSummary ((s ++ held_members ms) ++ x) (s' ++ held_members new)
      → IsSummary ((s ++ all) ++ x) (s' ++ all_of (held_sums ss) (held_levels ls) (held_members new) (held_timings ts))
  members_said new x off same =
      let p = held_sums ss ++ held_levels ls in
      let m = middle s s' p (held_members ms) (held_members new) (held_timings ts) x same
      (commute_back x (held_timings ts) off) (commute_back (held_members ms ++ x) p (both_none (held_members ms) x (loose_members ms) off)) (commute (held_members new) p (loose_members new)) in
      inner p (held_members ms) (held_members new) (held_timings ts) x all (all_of (held_sums ss) (held_levels ls) (held_members new) (held_timings ts)) m (simp append_assoc) (simp append_assoc)

  pub timings_said : (new : List (String Z × String Z)) (x : List Sample) → HasNoOrder x → IsSummary ((s ++ held_timings ts) ++ x) (s' ++ held_timings new)
      → IsSummary ((s ++ all) ++ x) (s' ++ all_of (held_sums ss) (held_levels ls) (held_members ms) (held_timings new))
  timings_said new x off same =
      let p = held_sums ss ++ (held_levels ls ++ held_members ms) in
      let m = middle s s' p (held_timings ts) (held_timings new) [] x same
      (nil_same x) (commute_back (held_timings ts ++ x) p (both_none (held_timings ts) x (loose_timings ts) off)) (commute (held_timings new) p (loose_timings new)) in
      inner p (held_timings ts) (held_timings new) [] x all (all_of (held_sums ss) (held_levels ls) (held_members ms) (held_timings new)) m (simp (append_assoc, append-nil)) (simp (append_assoc, append-nil))

  -- the same, if nothing more is said
  pub sums_kept : (new : List (String Z × ℤ)) → IsSummary (s ++ held_sums ss) (s' ++ held_sums new) → IsSummary (s ++ all) (s' ++ all_of (held_sums new) (held_levels ls) (held_members ms) (held_timings ts))
  sums_kept new same = without_nil (s ++ all) (s' ++ all_of (held_sums new) (held_levels ls) (held_members ms) (held_timings ts)) (sums_said new [] ((λ ours. refl), refl) (with_nil (s ++ held_sums ss) (s' ++ held_sums new) same))

  pub levels_kept : (new : List (String Z × String Z)) → IsSummary (s ++ held_levels ls) (s' ++ held_levels new) → IsSummary (s ++ all) (s' ++ all_of (held_sums ss) (held_levels new) (held_members ms) (held_timings ts))
  levels_kept new same = without_nil (s ++ all) (s' ++ all_of (held_sums ss) (held_levels new) (held_members ms) (held_timings ts)) (levels_said new [] (with_nil (s ++ held_levels ls) (s' ++ held_levels new) same))

  pub members_kept : (new : List (String Z × Unit {0})) → IsSummary (s ++ held_members ms) (s' ++ held_members new) → IsSummary (s ++ all) (s' ++ all_of (held_sums ss) (held_levels ls) (held_members new) (held_timings ts))
  members_kept new same = without_nil (s ++ all) (s' ++ all_of (held_sums ss) (held_levels ls) (held_members new) (held_timings ts)) (members_said new [] ((λ ours. refl), refl) (with_nil (s ++ held_members ms) (s' ++ held_members new) same))

  pub timings_kept : (new : List (String Z × String Z)) → IsSummary (s ++ held_timings ts) (s' ++ held_timings new) → IsSummary (s ++ all) (s' ++ all_of (held_sums ss) (held_levels ls) (held_members ms) (held_timings new))
  timings_kept new same = without_nil (s ++ all) (s' ++ all_of (held_sums ss) (held_levels ls) (held_members ms) (held_timings new)) (timings_said new [] ((λ ours. refl), refl) (with_nil (s ++ held_timings ts) (s' ++ held_timings new) same))

  -- a line that sets no gauge is handed on at once
  pub handed_on : (x : List Sample) → ((ours : List ℕ → Bool) → gauge ours x ≡ []) → IsSummary ((s ++ all) ++ x) ((s ++ x) ++ all)
  handed_on x off =
      let none : others all ≡ [] = rw (
        others-append (held_sums ss) (held_levels ls ++ (held_members ms ++ held_timings ts)),
        others-append (held_levels ls) (held_members ms ++ held_timings ts),
        others-append (held_members ms) (held_timings ts),
        sums_others ss,
        levels_others ls,
        members_others ms,
        timings_others ts,
      ) refl in
      same_trans _ _ _ (same_of ((s ++ all) ++ x) (s ++ (all ++ x)) (append_assoc s all x))
      (same_trans _ _ _ (same_before s (all ++ x) (x ++ all) (turned (x ++ all) (all ++ x) (commute_by x all off (sym (pass_others all x none))) (swap_levels all x)
      (let q = length-append x all in let r = length-append all x in omega arith)))
      (same_of (s ++ (x ++ all)) ((s ++ x) ++ all) (sym (append_assoc s x all))))

  -- the same, of what a sink is seen to have taken
  pub passed_on : (x : List Sample) → ((ours : List ℕ → Bool) → gauge ours x ≡ []) → (now : List Sample) → now ≡ s ++ x → IsSummary ((s ++ all) ++ x) (now ++ all)
  passed_on x off now e = subst (λ t. IsSummary ((s ++ all) ++ x) (t ++ all)) (sym e) (handed_on x off)

pub map_ok : {T F : Type 0} {P Q : Type 0} (r : Result T F) → (P → Q) → OnOk r P → OnOk r Q
map_ok (Ok x) f p = f p
map_ok (Err e) f p = tt

pub map_err : {T F : Type 0} {P Q : Type 0} (r : Result T F) → (P → Q) → OnErr r P → OnErr r Q
map_err (Ok x) f p = tt
map_err (Err e) f p = f p
