-- A server knows the same whether lines are sent in the order of their kinds, or those that are due before the others.
use Rattle.std.specs.Prelude.{String, string_bytes, ◌≤◌}
use Rattle.std.proofs.Common.{◌≡◌, ℕ, Bool, true, false, cond, List, [], ◌∷◌, ◌++◌, ◌+◌, length, take, drop, refl, sym, ap, subst, ◌∙◌, arith, append_assoc, length-append}
use Rattle.std.specs.Prelude.{ℤ}
use Rattle.std.proofs.lemmas.List.{take-append-drop}
use Rattle.cadence_aggregate.specs.Fewest.{unpacked}
use Rattle.cadence_aggregate.specs.Held.{firsts, held_sums, held_levels, held_members, held_timings, in_turn, none_due, rests}
use Rattle.cadence_aggregate.specs.Quiet.{AreDistinct}
use Rattle.cadence_aggregate.specs.Server.{Sample, amount, level, member, timing, Setting, gauge, others, later, replaces, IsSummary}
use Rattle.cadence_aggregate.specs.Within.{AreWithin, StayWithin}
use Rattle.cadence_aggregate.specs.declared.due.Due.{Due}
use Rattle.cadence_aggregate.proofs.Fewest.{fewest, lines_more}
use Rattle.cadence_aggregate.proofs.Observed.{gauge-append, others-append, same_more, same_of, same_trans}
use Rattle.cadence_aggregate.proofs.Rearranged.{HasNoOrder, both_none, commute, commute_back, loose_members, loose_sums, loose_timings, same_before}
use Rattle.cadence_aggregate.proofs.Tables.{held_length}
use Rattle.cadence_aggregate.proofs.Within.{within_both, within_parts}

-- A server knows the same after both.
abbrev pub Alike : List Sample → List Sample → Type 0
Alike xs ys = IsSummary xs ys × IsSummary ys xs

alike_of : (xs ys : List Sample) → xs ≡ ys → Alike xs ys
alike_of xs ys e = (same_of xs ys e, same_of ys xs (sym e))

alike_trans : (xs ys zs : List Sample) → Alike xs ys → Alike ys zs → Alike xs zs
alike_trans xs ys zs a b = (same_trans xs ys zs a.0 b.0, same_trans zs ys xs b.1 a.1)

-- two lists in the midst of others are swapped
swapped : (p x q y : List Sample) → Alike (x ++ q) (q ++ x) → Alike (p ++ (x ++ (q ++ y))) (p ++ (q ++ (x ++ y)))
swapped p x q y a =
    let before : p ++ (x ++ (q ++ y)) ≡ p ++ ((x ++ q) ++ y) = ap (λ t. p ++ t) (sym (append_assoc x q y)) in
    let after : p ++ ((q ++ x) ++ y) ≡ p ++ (q ++ (x ++ y)) = ap (λ t. p ++ t) (append_assoc q x y) in
    alike_trans _ _ _ (alike_of _ _ before)
    (alike_trans _ _ _ (same_before p _ _ (same_more (x ++ q) (q ++ x) y a.0), same_before p _ _ (same_more (q ++ x) (x ++ q) y a.1)) (alike_of _ _ after))

commuted : (xs ys : List Sample) → HasNoOrder xs → Alike (xs ++ ys) (ys ++ xs)
commuted xs ys off = (commute xs ys off, commute_back xs ys off)

commuted_back : (xs ys : List Sample) → HasNoOrder xs → Alike (ys ++ xs) (xs ++ ys)
commuted_back xs ys off = (commute_back xs ys off, commute xs ys off)

nil_parts : {X : Type 0} (xs ys : List X) → xs ++ ys ≡ [] → (xs ≡ []) × (ys ≡ [])
nil_parts [] ys h = (refl, h)
nil_parts (x ∷ xs) ys h = cc

later_parts : (a b : List Setting) → later a b ≡ [] → (a ≡ []) × (b ≡ [])
later_parts a [] h = (h, refl)
later_parts a (v ∷ vs) h = (elim (replaces v) as (λ p. cond p (v ∷ vs) (a ++ v ∷ vs) ≡ [] → (a ≡ []) × (v ∷ vs ≡ [])) [
  | true ↦ λ e. cc
  | false ↦ λ e. nil_parts a (v ∷ vs) e
]) h

loose_parts : (xs ys : List Sample) → HasNoOrder (xs ++ ys) → HasNoOrder xs × HasNoOrder ys
loose_parts xs ys off =
    let gauges : (ours : List ℕ → Bool) → (gauge ours xs ≡ []) × (gauge ours ys ≡ []) =
    λ ours. later_parts (gauge ours xs) (gauge ours ys) (sym (gauge-append ours xs ys) ∙ off.0 ours) in
    let rest = nil_parts (others xs) (others ys) (sym (others-append xs ys) ∙ off.1) in
    (((λ ours. (gauges ours).0), rest.0), ((λ ours. (gauges ours).1), rest.1))

halves : (n : ℕ) (xs : List Sample) → HasNoOrder xs → HasNoOrder (take n xs) × HasNoOrder (drop n xs)
halves n xs off = loose_parts (take n xs) (drop n xs) (subst HasNoOrder (sym (take-append-drop n xs)) off)

module _ (due : Due) (s l m t : List Sample) where
  abbrev kinds : List Sample
  kinds = s ++ (l ++ (m ++ t))

  joined : (take due.sums s ++ drop due.sums s) ++ ((take due.levels l ++ drop due.levels l) ++ ((take due.members m ++ drop due.members m) ++ (take due.timings t ++ drop due.timings t))) ≡ kinds
  joined = rw (take-append-drop due.sums s, take-append-drop due.levels l, take-append-drop due.members m, take-append-drop due.timings t) refl

  pub in_kinds : HasNoOrder s → HasNoOrder m → HasNoOrder t → Alike (in_turn due s l m t) kinds
  in_kinds loose_s loose_m loose_t =
      let a = take due.sums s in let a' = drop due.sums s in
      let b = take due.levels l in let b' = drop due.levels l in
      let c = take due.members m in let c' = drop due.members m in
      let d = take due.timings t in let d' = drop due.timings t in
      let hs = halves due.sums s loose_s in
      let hm = halves due.members m loose_m in
      let ht = halves due.timings t loose_t in
      alike_trans _ _ _ (alike_of (in_turn due s l m t) (a ++ ((b ++ (c ++ d)) ++ (a' ++ (b' ++ (c' ++ d'))))) (simp append_assoc))
      (alike_trans _ _ _ (swapped a (b ++ (c ++ d)) a' (b' ++ (c' ++ d')) (commuted_back a' (b ++ (c ++ d)) hs.1))
      (alike_trans _ _ _ (alike_of (a ++ (a' ++ ((b ++ (c ++ d)) ++ (b' ++ (c' ++ d'))))) (((a ++ a') ++ b) ++ ((c ++ d) ++ (b' ++ (c' ++ d')))) (simp append_assoc))
      (alike_trans _ _ _ (swapped ((a ++ a') ++ b) (c ++ d) b' (c' ++ d') (commuted (c ++ d) b' (both_none c d hm.0 ht.0)))
      (alike_trans _ _ _ (alike_of (((a ++ a') ++ b) ++ (b' ++ ((c ++ d) ++ (c' ++ d')))) (((a ++ a') ++ ((b ++ b') ++ c)) ++ (d ++ (c' ++ d'))) (simp append_assoc))
      (alike_trans _ _ _ (swapped ((a ++ a') ++ ((b ++ b') ++ c)) d c' d' (commuted d c' ht.0))
      (alike_trans _ _ _ (alike_of (((a ++ a') ++ ((b ++ b') ++ c)) ++ (c' ++ (d ++ d'))) ((a ++ a') ++ ((b ++ b') ++ ((c ++ c') ++ (d ++ d')))) (simp append_assoc))
      (alike_of ((a ++ a') ++ ((b ++ b') ++ ((c ++ c') ++ (d ++ d')))) kinds joined)))))))

  module _ (most : ℕ) where
    -- the lines of values are within a limit in both orders
    pub within_kinds : AreWithin most (in_turn due s l m t) → AreWithin most kinds
    within_kinds within =
        let a = take due.sums s in let a' = drop due.sums s in
        let b = take due.levels l in let b' = drop due.levels l in
        let c = take due.members m in let c' = drop due.members m in
        let d = take due.timings t in let d' = drop due.timings t in
        let all = within_parts most (a ++ (b ++ (c ++ d))) (a' ++ (b' ++ (c' ++ d'))) within in
        let f1 = within_parts most a (b ++ (c ++ d)) all.0 in
        let f2 = within_parts most b (c ++ d) f1.1 in
        let f3 = within_parts most c d f2.1 in
        let r1 = within_parts most a' (b' ++ (c' ++ d')) all.1 in
        let r2 = within_parts most b' (c' ++ d') r1.1 in
        let r3 = within_parts most c' d' r2.1 in
        subst (AreWithin most) joined
        (within_both most (a ++ a') ((b ++ b') ++ ((c ++ c') ++ (d ++ d'))) (within_both most a a' f1.0 r1.0)
        (within_both most (b ++ b') ((c ++ c') ++ (d ++ d')) (within_both most b b' f2.0 r2.0)
        (within_both most (c ++ c') (d ++ d') (within_both most c c' f3.0 r3.0) (within_both most d d' f3.1 r3.1))))

    pub within_turn : AreWithin most kinds → AreWithin most (in_turn due s l m t)
    within_turn within =
        let a = take due.sums s in let a' = drop due.sums s in
        let b = take due.levels l in let b' = drop due.levels l in
        let c = take due.members m in let c' = drop due.members m in
        let d = take due.timings t in let d' = drop due.timings t in
        let all = within_parts most s (l ++ (m ++ t)) within in
        let two = within_parts most l (m ++ t) all.1 in
        let three = within_parts most m t two.1 in
        let hs = within_parts most a a' (subst (AreWithin most) (sym (take-append-drop due.sums s)) all.0) in
        let hl = within_parts most b b' (subst (AreWithin most) (sym (take-append-drop due.levels l)) two.0) in
        let hm = within_parts most c c' (subst (AreWithin most) (sym (take-append-drop due.members m)) three.0) in
        let ht = within_parts most d d' (subst (AreWithin most) (sym (take-append-drop due.timings t)) three.1) in
        within_both most (a ++ (b ++ (c ++ d))) (a' ++ (b' ++ (c' ++ d')))
        (within_both most a (b ++ (c ++ d)) hs.0 (within_both most b (c ++ d) hl.0 (within_both most c d hm.0 ht.0)))
        (within_both most a' (b' ++ (c' ++ d')) hs.1 (within_both most b' (c' ++ d') hl.1 (within_both most c' d' hm.1 ht.1)))

  half_lines : (n : ℕ) (xs : List Sample) → length (unpacked (take n xs)) + length (unpacked (drop n xs)) ≡ length (unpacked xs)
  half_lines n xs = sym (lines_more (take n xs) (drop n xs)) ∙ ap (λ ys. length (unpacked ys)) (take-append-drop n xs)

  -- there are as many lines in both orders, packed values apart
  pub lines_in_turn : length (unpacked (in_turn due s l m t)) ≡ length (unpacked kinds)
  lines_in_turn =
      let c = take due.members m in let c' = drop due.members m in
      let d = take due.timings t in let d' = drop due.timings t in
      let b = take due.levels l in let b' = drop due.levels l in
      let a = take due.sums s in let a' = drop due.sums s in
      let all = lines_more (a ++ (b ++ (c ++ d))) (a' ++ (b' ++ (c' ++ d'))) in
      let f1 = lines_more a (b ++ (c ++ d)) in
      let f2 = lines_more b (c ++ d) in
      let f3 = lines_more c d in
      let r1 = lines_more a' (b' ++ (c' ++ d')) in
      let r2 = lines_more b' (c' ++ d') in
      let r3 = lines_more c' d' in
      let k1 = lines_more s (l ++ (m ++ t)) in
      let k2 = lines_more l (m ++ t) in
      let k3 = lines_more m t in
      let hs = half_lines due.sums s in
      let hl = half_lines due.levels l in
      let hm = half_lines due.members m in
      let ht = half_lines due.timings t in
      omega arith

-- what is so of lines in the order of their kinds is so of those in turn
module _ {Z : Type 0} (due : Due) (s s' x : List Sample)
    (a a' : List (String Z × ℤ)) (b b' : List (String Z × String Z)) (c c' : List (String Z × Unit {0})) (d d' : List (String Z × String Z)) where
  abbrev now : List Sample
  now = in_turn due (held_sums a) (held_levels b) (held_members c) (held_timings d)

  abbrev new : List Sample
  new = in_turn due (held_sums a') (held_levels b') (held_members c') (held_timings d')

  pub said_in_turn : IsSummary ((s ++ (held_sums a ++ (held_levels b ++ (held_members c ++ held_timings d)))) ++ x) (s' ++ (held_sums a' ++ (held_levels b' ++ (held_members c' ++ held_timings d'))))
      → IsSummary ((s ++ now) ++ x) (s' ++ new)
  said_in_turn same =
      let one = in_kinds due (held_sums a) (held_levels b) (held_members c) (held_timings d) (loose_sums a) (loose_members c) (loose_timings d) in
      let two = in_kinds due (held_sums a') (held_levels b') (held_members c') (held_timings d') (loose_sums a') (loose_members c') (loose_timings d') in
      same_trans _ _ _ (same_more (s ++ now) _ x (same_before s now _ one.0)) (same_trans _ _ _ same (same_before s' _ new two.1))

  pub kept_in_turn : IsSummary (s ++ (held_sums a ++ (held_levels b ++ (held_members c ++ held_timings d)))) (s' ++ (held_sums a' ++ (held_levels b' ++ (held_members c' ++ held_timings d'))))
      → IsSummary (s ++ now) (s' ++ new)
  kept_in_turn same =
      let one = in_kinds due (held_sums a) (held_levels b) (held_members c) (held_timings d) (loose_sums a) (loose_members c) (loose_timings d) in
      let two = in_kinds due (held_sums a') (held_levels b') (held_members c') (held_timings d') (loose_sums a') (loose_members c') (loose_timings d') in
      same_trans _ _ _ (same_before s now _ one.0) (same_trans _ _ _ same (same_before s' _ new two.1))

  pub stay_in_turn : (limit : ℕ) → StayWithin limit ((s ++ (held_sums a ++ (held_levels b ++ (held_members c ++ held_timings d)))) ++ x) (s' ++ (held_sums a' ++ (held_levels b' ++ (held_members c' ++ held_timings d'))))
      → StayWithin limit ((s ++ now) ++ x) (s' ++ new)
  stay_in_turn limit stay most least within =
      let kinds = held_sums a ++ (held_levels b ++ (held_members c ++ held_timings d)) in
      let kinds' = held_sums a' ++ (held_levels b' ++ (held_members c' ++ held_timings d')) in
      let all = within_parts most (s ++ now) x within in
      let past = within_parts most s now all.0 in
      let before = within_kinds due (held_sums a) (held_levels b) (held_members c) (held_timings d) most past.1 in
      let ends = within_parts most s' kinds' (stay most least (within_both most (s ++ kinds) x (within_both most s kinds past.0 before) all.1)) in
      within_both most s' new ends.0 (within_turn due (held_sums a') (held_levels b') (held_members c') (held_timings d') most ends.1)

-- if no context is due, no line comes first
pub none_first : (due : Due) (s l m t : List Sample) → due ≡ none_due → firsts due s l m t ≡ []
none_first due s l m t e = subst (λ d. firsts d s l m t ≡ []) (sym e) refl

pub all_after : (due : Due) (s l m t : List Sample) → due ≡ none_due → rests due s l m t ≡ s ++ (l ++ (m ++ t))
all_after due s l m t e = subst (λ d. rests d s l m t ≡ s ++ (l ++ (m ++ t))) (sym e) refl

-- each context that is held needs a line
pub fewest_in_turn : {Z : Type 0} (due : Due) (ss : List (String Z × ℤ)) (ls : List (String Z × String Z)) (ms : List (String Z × Unit {0})) (ts : List (String Z × String Z))
    (ys : List Sample) → IsSummary (in_turn due (held_sums ss) (held_levels ls) (held_members ms) (held_timings ts)) ys
    → AreDistinct ss → AreDistinct ls → AreDistinct ms → length (unpacked (in_turn due (held_sums ss) (held_levels ls) (held_members ms) (held_timings ts))) ≤ length ys
fewest_in_turn due ss ls ms ts ys same ds dl dm =
    let kinds = in_kinds due (held_sums ss) (held_levels ls) (held_members ms) (held_timings ts) (loose_sums ss) (loose_members ms) (loose_timings ts) in
    let few = fewest ss ls ms ts ys (same_trans _ _ _ kinds.1 same) ds dl dm in
    let lines = lines_in_turn due (held_sums ss) (held_levels ls) (held_members ms) (held_timings ts) in
    omega (arith, few, lines)

half : (n : ℕ) (xs : List Sample) → length (take n xs) + length (drop n xs) ≡ length xs
half n xs = sym (length-append (take n xs) (drop n xs)) ∙ ap (λ ys. length ys) (take-append-drop n xs)

-- there is one line for each context that is held
pub count_in_turn : {Z : Type 0} (due : Due) (ss : List (String Z × ℤ)) (ls : List (String Z × String Z)) (ms : List (String Z × Unit {0})) (ts : List (String Z × String Z))
    → length ss + length ls + length ms + length ts ≡ length (in_turn due (held_sums ss) (held_levels ls) (held_members ms) (held_timings ts))
count_in_turn due ss ls ms ts =
    let a = take due.sums (held_sums ss) in let a' = drop due.sums (held_sums ss) in
    let b = take due.levels (held_levels ls) in let b' = drop due.levels (held_levels ls) in
    let c = take due.members (held_members ms) in let c' = drop due.members (held_members ms) in
    let d = take due.timings (held_timings ts) in let d' = drop due.timings (held_timings ts) in
    let all = length-append (a ++ (b ++ (c ++ d))) (a' ++ (b' ++ (c' ++ d'))) in
    let f1 = length-append a (b ++ (c ++ d)) in
    let f2 = length-append b (c ++ d) in
    let f3 = length-append c d in
    let r1 = length-append a' (b' ++ (c' ++ d')) in
    let r2 = length-append b' (c' ++ d') in
    let r3 = length-append c' d' in
    let hs = half due.sums (held_sums ss) in
    let hl = half due.levels (held_levels ls) in
    let hm = half due.members (held_members ms) in
    let ht = half due.timings (held_timings ts) in
    let ns = held_length (λ e. amount (string_bytes e.0) e.1) ss in
    let nl = held_length (λ e. level (string_bytes e.0) (string_bytes e.1)) ls in
    let nm = held_length (λ e. member (string_bytes e.0)) ms in
    let nt = held_length (λ e. timing (string_bytes e.0) (string_bytes e.1)) ts in
    omega arith
