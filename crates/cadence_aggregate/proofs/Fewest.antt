-- Each context that is held needs a line.
use Rattle.std.specs.Prelude.{String, string_bytes, ℤ, ◌≤◌, nat_eq, map}
use Rattle.std.proofs.Common.{◌≡◌, ℕ, suc, ◌+◌, Bool, true, false, cond, List, [], ◌∷◌, ◌++◌, length, refl, sym, ap, ◌∙◌, arith, length-append}
use Rattle.std.specs.Prelude.{◌||◌}
use Rattle.std.specs.Cmp.Lexicographic.{pointwise, nat_list_eq_equiv}
use Rattle.std.specs.List.{AllByRecursion, IsDistinct, list_any}
use Rattle.std.specs.Map.{keys_of}
use Rattle.std.specs.String.{string_eq}
use Rattle.std.proofs.lemmas.Map.Made.{length-le_from_is_member}
use Rattle.cadence_aggregate.specs.Fewest.{unpacked}
use Rattle.cadence_aggregate.specs.Held.{held_sums, held_levels, held_members, held_timings}
use Rattle.cadence_aggregate.specs.Quiet.{AreDistinct}
use Rattle.cadence_aggregate.specs.Server.{Sample, amount, level, member, timing, unclear, other, gauge, has_member, has_amount, others, Setting, set_to, later, is_plain, IsSummary}
use Rattle.cadence_aggregate.proofs.Observed.{gauge-append, member-append, amount-append, others-append, later_none}
use Rattle.cadence_aggregate.proofs.Rewrites.{sums_levels, sums_members, levels_members, levels_amounts, members_levels, timings_levels, timings_members, timings_amounts, sums_others, levels_others, members_others, timings_others}

-- the contexts of the counters, the gauges and the members of sets
abbrev counters_of : List Sample → List (List ℕ)
counters_of [] = []
counters_of (amount c n ∷ xs) = c ∷ counters_of xs
counters_of (level c v ∷ xs) = counters_of xs
counters_of (member c ∷ xs) = counters_of xs
counters_of (timing c t ∷ xs) = counters_of xs
counters_of (unclear l ∷ xs) = counters_of xs
counters_of (other l ∷ xs) = counters_of xs

abbrev gauges_of : List Sample → List (List ℕ)
gauges_of [] = []
gauges_of (amount c n ∷ xs) = gauges_of xs
gauges_of (level c v ∷ xs) = c ∷ gauges_of xs
gauges_of (member c ∷ xs) = gauges_of xs
gauges_of (timing c t ∷ xs) = gauges_of xs
gauges_of (unclear l ∷ xs) = gauges_of xs
gauges_of (other l ∷ xs) = gauges_of xs

abbrev members_of : List Sample → List (List ℕ)
members_of [] = []
members_of (amount c n ∷ xs) = members_of xs
members_of (level c v ∷ xs) = members_of xs
members_of (member c ∷ xs) = c ∷ members_of xs
members_of (timing c t ∷ xs) = members_of xs
members_of (unclear l ∷ xs) = members_of xs
members_of (other l ∷ xs) = members_of xs

lines_of_kinds : (xs : List Sample) → length (counters_of xs) + (length (gauges_of xs) + length (members_of xs)) ≤ length xs
lines_of_kinds [] = omega arith
lines_of_kinds (amount c n ∷ xs) = let h = lines_of_kinds xs in omega arith
lines_of_kinds (level c v ∷ xs) = let h = lines_of_kinds xs in omega arith
lines_of_kinds (member c ∷ xs) = let h = lines_of_kinds xs in omega arith
lines_of_kinds (timing c t ∷ xs) = let h = lines_of_kinds xs in omega arith
lines_of_kinds (unclear l ∷ xs) = let h = lines_of_kinds xs in omega arith
lines_of_kinds (other l ∷ xs) = let h = lines_of_kinds xs in omega arith

either_way : (o l h : Bool) → (o || l) ≡ true → (l ≡ true → h ≡ true) → h || (o || false) ≡ true
either_way true l true s f = refl
either_way true l false s f = refl
either_way false l h s f = rw (f s) refl

module _ (ours : List ℕ → Bool) where
  counted : (xs : List Sample) → has_amount ours xs ≡ list_any ours (counters_of xs)
  counted [] = refl
  counted (amount c n ∷ xs) = ap (λ b. ours c || b) (counted xs)
  counted (level c v ∷ xs) = counted xs
  counted (member c ∷ xs) = counted xs
  counted (timing c t ∷ xs) = counted xs
  counted (unclear l ∷ xs) = counted xs
  counted (other l ∷ xs) = counted xs

  listed : (xs : List Sample) → has_member ours xs ≡ list_any ours (members_of xs)
  listed [] = refl
  listed (amount c n ∷ xs) = listed xs
  listed (level c v ∷ xs) = listed xs
  listed (member c ∷ xs) = ap (λ b. ours c || b) (listed xs)
  listed (timing c t ∷ xs) = listed xs
  listed (unclear l ∷ xs) = listed xs
  listed (other l ∷ xs) = listed xs

  -- nothing sets a gauge if no line sets it, and none may
  unset : (xs : List Sample) → others xs ≡ [] → list_any ours (gauges_of xs) ≡ false → gauge ours xs ≡ []
  unset [] none h = refl
  unset (amount c n ∷ xs) none h = unset xs none h
  unset (level c v ∷ xs) none h = (elim (ours c) as (λ b. (b || list_any ours (gauges_of xs)) ≡ false → later (cond b (set_to v ∷ []) []) (gauge ours xs) ≡ []) [
    | true ↦ λ t. cc
    | false ↦ λ t. rw (unset xs none t) refl
  ]) h
  unset (member c ∷ xs) none h = unset xs none h
  unset (timing c t ∷ xs) none h = unset xs none h
  unset (unclear l ∷ xs) none h = cc
  unset (other l ∷ xs) none h = cc

  later_some : (x : List Setting) (v : List ℕ) → later x (set_to v ∷ []) ≡ [] → ⊥
  later_some x v = elim (is_plain v) as (λ p. cond p (set_to v ∷ []) (x ++ set_to v ∷ []) ≡ [] → ⊥) [
    | true ↦ λ e. cc
    | false ↦ λ e. let n = length-append x (set_to v ∷ []) in absurd (omega (arith, ap length e))
  ]

  -- what is held of a context shows that it was called
  module _ {Z : Type 0} where
    sums_shown : (es : List (String Z × ℤ)) → list_any ours (map string_bytes (keys_of es)) ≡ true → has_amount ours (held_sums es) ≡ true
    sums_shown [] h = cc
    sums_shown (e ∷ es) h = amount-append ours (held_sums es) (amount (string_bytes e.0) e.1 ∷ [])
        ∙ either_way (ours (string_bytes e.0)) (list_any ours (map string_bytes (keys_of es))) (has_amount ours (held_sums es)) h (sums_shown es)

    members_shown : (es : List (String Z × Unit {0})) → list_any ours (map string_bytes (keys_of es)) ≡ true → has_member ours (held_members es) ≡ true
    members_shown [] h = cc
    members_shown (e ∷ es) h = member-append ours (held_members es) (member (string_bytes e.0) ∷ [])
        ∙ either_way (ours (string_bytes e.0)) (list_any ours (map string_bytes (keys_of es))) (has_member ours (held_members es)) h (members_shown es)

    levels_shown : (es : List (String Z × String Z)) → list_any ours (map string_bytes (keys_of es)) ≡ true → gauge ours (held_levels es) ≡ [] → ⊥
    levels_shown [] h g = cc
    levels_shown (e ∷ es) h g =
        let one : later (gauge ours (held_levels es)) (cond (ours (string_bytes e.0)) (set_to (string_bytes e.1) ∷ []) []) ≡ [] =
        sym (gauge-append ours (held_levels es) (level (string_bytes e.0) (string_bytes e.1) ∷ [])) ∙ g in
        (elim (ours (string_bytes e.0)) as (λ b. (b || list_any ours (map string_bytes (keys_of es))) ≡ true → later (gauge ours (held_levels es)) (cond b (set_to (string_bytes e.1) ∷ []) []) ≡ [] → ⊥) [
          | true ↦ λ s t. later_some (gauge ours (held_levels es)) (string_bytes e.1) t
          | false ↦ λ s t. levels_shown es s t
        ]) h one

-- distinct keys have distinct contexts
contexts_differ : {Z : Type 0} (k : String Z) (ks : List (String Z)) → AllByRecursion (λ y. string_eq k y ≡ false) ks
    → AllByRecursion (λ y. pointwise nat_eq (string_bytes k) y ≡ false) (map string_bytes ks)
contexts_differ k [] h = tt
contexts_differ k (y ∷ ks) h = (h.0, contexts_differ k ks h.1)

distinct_contexts : {Z : Type 0} (ks : List (String Z)) → IsDistinct string_eq ks → IsDistinct (pointwise nat_eq) (map string_bytes ks)
unfolding IsDistinct
distinct_contexts [] h = tt
distinct_contexts (k ∷ ks) h = (contexts_differ k ks h.0, distinct_contexts ks h.1)

contexts_length : {Z V : Type 0} (es : List (String Z × V)) → length (map string_bytes (keys_of es)) ≡ length es
contexts_length [] = refl
contexts_length (e ∷ es) = ap suc (contexts_length es)

unpacked-append : (xs ys : List Sample) → unpacked (xs ++ ys) ≡ unpacked xs ++ unpacked ys
unpacked-append [] ys = refl
unpacked-append (amount c n ∷ xs) ys = ap (λ t. amount c n ∷ t) (unpacked-append xs ys)
unpacked-append (level c v ∷ xs) ys = ap (λ t. level c v ∷ t) (unpacked-append xs ys)
unpacked-append (member c ∷ xs) ys = ap (λ t. member c ∷ t) (unpacked-append xs ys)
unpacked-append (timing c t ∷ xs) ys = unpacked-append xs ys
unpacked-append (unclear l ∷ xs) ys = ap (λ t. unclear l ∷ t) (unpacked-append xs ys)
unpacked-append (other l ∷ xs) ys = ap (λ t. other l ∷ t) (unpacked-append xs ys)

pub lines_more : (xs ys : List Sample) → length (unpacked (xs ++ ys)) ≡ length (unpacked xs) + length (unpacked ys)
lines_more xs ys = ap length (unpacked-append xs ys) ∙ length-append (unpacked xs) (unpacked ys)

module _ {Z : Type 0} where
  sums_lines : (es : List (String Z × ℤ)) → length (unpacked (held_sums es)) ≡ length es
  sums_lines [] = refl
  sums_lines (e ∷ es) = let h = sums_lines es in let m = lines_more (held_sums es) (amount (string_bytes e.0) e.1 ∷ []) in omega arith

  levels_lines : (es : List (String Z × String Z)) → length (unpacked (held_levels es)) ≡ length es
  levels_lines [] = refl
  levels_lines (e ∷ es) = let h = levels_lines es in let m = lines_more (held_levels es) (level (string_bytes e.0) (string_bytes e.1) ∷ []) in omega arith

  members_lines : (es : List (String Z × Unit {0})) → length (unpacked (held_members es)) ≡ length es
  members_lines [] = refl
  members_lines (e ∷ es) = let h = members_lines es in let m = lines_more (held_members es) (member (string_bytes e.0) ∷ []) in omega arith

  timings_lines : (es : List (String Z × String Z)) → length (unpacked (held_timings es)) ≡ 0
  timings_lines [] = refl
  timings_lines (e ∷ es) = let h = timings_lines es in let m = lines_more (held_timings es) (timing (string_bytes e.0) (string_bytes e.1) ∷ []) in omega arith

  members_amounts : (ours : List ℕ → Bool) (es : List (String Z × Unit {0})) → has_amount ours (held_members es) ≡ false
  members_amounts ours [] = refl
  members_amounts ours (e ∷ es) = rw (amount-append ours (held_members es) (member (string_bytes e.0) ∷ []), members_amounts ours es) refl

or_false : (b : Bool) → b || false ≡ b
or_false true = refl
or_false false = refl

module _ {Z : Type 0} (ss : List (String Z × ℤ)) (ls : List (String Z × String Z)) (ms : List (String Z × Unit {0})) (ts : List (String Z × String Z)) where
  abbrev all : List Sample
  all = held_sums ss ++ (held_levels ls ++ (held_members ms ++ held_timings ts))

  all_lines : length (unpacked all) ≡ length ss + (length ls + length ms)
  all_lines =
      let a = lines_more (held_sums ss) (held_levels ls ++ (held_members ms ++ held_timings ts)) in
      let b = lines_more (held_levels ls) (held_members ms ++ held_timings ts) in
      let d = lines_more (held_members ms) (held_timings ts) in
      let e = sums_lines ss in
      let f = levels_lines ls in
      let g = members_lines ms in
      let h = timings_lines ts in
      omega arith

  module _ (ours : List ℕ → Bool) where
    all_amounts : has_amount ours all ≡ has_amount ours (held_sums ss)
    all_amounts = rw (
      amount-append ours (held_sums ss) (held_levels ls ++ (held_members ms ++ held_timings ts)),
      amount-append ours (held_levels ls) (held_members ms ++ held_timings ts),
      amount-append ours (held_members ms) (held_timings ts),
      levels_amounts ours ls,
      members_amounts ours ms,
      timings_amounts ours ts,
    ) (or_false (has_amount ours (held_sums ss)))

    all_gauges : gauge ours all ≡ gauge ours (held_levels ls)
    all_gauges = rw (
      gauge-append ours (held_sums ss) (held_levels ls ++ (held_members ms ++ held_timings ts)),
      gauge-append ours (held_levels ls) (held_members ms ++ held_timings ts),
      gauge-append ours (held_members ms) (held_timings ts),
      sums_levels ours ss,
      members_levels ours ms,
      timings_levels ours ts,
    ) (later_none ours (gauge ours (held_levels ls)))

    all_members : has_member ours all ≡ has_member ours (held_members ms)
    all_members = rw (
      member-append ours (held_sums ss) (held_levels ls ++ (held_members ms ++ held_timings ts)),
      member-append ours (held_levels ls) (held_members ms ++ held_timings ts),
      member-append ours (held_members ms) (held_timings ts),
      sums_members ours ss,
      levels_members ours ls,
      timings_members ours ts,
    ) (or_false (has_member ours (held_members ms)))

  all_others : others all ≡ []
  all_others = rw (
    others-append (held_sums ss) (held_levels ls ++ (held_members ms ++ held_timings ts)),
    others-append (held_levels ls) (held_members ms ++ held_timings ts),
    others-append (held_members ms) (held_timings ts),
    sums_others ss,
    levels_others ls,
    members_others ms,
    timings_others ts,
  ) refl

  -- each context that is held needs a line
  module _ (ys : List Sample) (same : IsSummary all ys) where
    found : (ours : List ℕ → Bool) → list_any ours (map string_bytes (keys_of ls)) ≡ true → (b : Bool) → list_any ours (gauges_of ys) ≡ b → list_any ours (gauges_of ys) ≡ true
    found ours m true e = e
    found ours m false e = absurd (levels_shown ours ls m (sym (all_gauges ours) ∙ same.gauges ours ∙ unset ours ys (sym same.rest ∙ all_others) e))

    pub fewest : AreDistinct ss → AreDistinct ls → AreDistinct ms → length (unpacked all) ≤ length ys
    fewest ds dl dm =
        let test : List ℕ → List ℕ → Bool = pointwise nat_eq in
        let a = length-le_from_is_member nat_list_eq_equiv (map string_bytes (keys_of ss)) (counters_of ys) (distinct_contexts (keys_of ss) ds)
        (λ q m. sym (counted (test q) ys) ∙ sym (same.counters (test q)) ∙ all_amounts (test q) ∙ sums_shown (test q) ss m) in
        let b = length-le_from_is_member nat_list_eq_equiv (map string_bytes (keys_of ls)) (gauges_of ys) (distinct_contexts (keys_of ls) dl)
        (λ q m. found (test q) m (list_any (test q) (gauges_of ys)) refl) in
        let d = length-le_from_is_member nat_list_eq_equiv (map string_bytes (keys_of ms)) (members_of ys) (distinct_contexts (keys_of ms) dm)
        (λ q m. sym (listed (test q) ys) ∙ sym (same.members (test q)) ∙ all_members (test q) ∙ members_shown (test q) ms m) in
        let e = contexts_length ss in
        let f = contexts_length ls in
        let g = contexts_length ms in
        let h = lines_of_kinds ys in
        let i = all_lines in
        omega arith
