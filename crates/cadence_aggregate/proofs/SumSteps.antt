-- A server knows the same once a sum is raised in place.
use Rattle.std.specs.Prelude.{String, string_bytes}
use Rattle.std.proofs.Common.{◌≡◌, ℕ, Bool, true, false, cond, List, [], ◌∷◌, ◌++◌, Some, refl, ap, subst, ◌∙◌, arith, append-nil, length-append}
use Rattle.std.specs.Prelude.{ℤ, pos, ◌+ℤ◌, ◌||◌}
use Rattle.std.specs.Map.{lookup, remove_entry, set_value}
use Rattle.std.proofs.lemmas.Int.{ints}
use Rattle.lru.specs.LruCache.{promoted}
use Rattle.cadence_aggregate.specs.Server.{Sample, amount, total, has_member, has_amount, others, IsSummary}
use Rattle.cadence_aggregate.specs.Held.{held_sums}
use Rattle.cadence_aggregate.proofs.Observed.{total-append, gauge-append, member-append, times-append, amount-append, others-append, only_said, still_said}
use Rattle.cadence_aggregate.proofs.Tables.{rewritten, after_length}
use Rattle.cadence_aggregate.proofs.Rewrites.{taken, amounts_taken, sums_levels, sums_members, sums_timings, sums_others, sums_values}

or_false : (b : Bool) → b || false ≡ b
or_false true = refl
or_false false = refl

or_again : (s r o : Bool) → (s || (r || (o || false))) || (o || false) ≡ s || (r || (o || false))
or_again true r o = refl
or_again false true o = refl
or_again false false true = refl
or_again false false false = refl

or_between : (s r o : Bool) → (s || (r || (o || false))) || (o || false) ≡ (s || (o || false)) || (r || (o || false))
or_between true r o = refl
or_between false true true = refl
or_between false true false = refl
or_between false false true = refl
or_between false false false = refl

-- what one amount counts for
abbrev pub worth : (List ℕ → Bool) → List ℕ → ℤ → ℤ
worth ours c n = total ours (amount c n ∷ [])

pub worth_sum : (ours : List ℕ → Bool) (c : List ℕ) (m n : ℤ) → worth ours c (m +ℤ n) ≡ worth ours c m +ℤ worth ours c n
worth_sum ours c m n = elim (ours c) as (λ b. cond b (m +ℤ n) (pos 0) +ℤ pos 0 ≡ (cond b m (pos 0) +ℤ pos 0) +ℤ (cond b n (pos 0) +ℤ pos 0)) [
  | true ↦ omega (arith, ints)
  | false ↦ refl
]

module _ {Z : Type 0} (test : String Z → Bool) (c : List ℕ) (key : (k : String Z) → test k ≡ true → (string_bytes k) ≡ c) where
  abbrev after : List (String Z × ℤ) → ℤ → List Sample
  after es w = held_sums (set_value test (promoted test es) w)

  -- the old value is exchanged for the new one
  pub exchanged : (ours : List ℕ → Bool) (es : List (String Z × ℤ)) (v w : ℤ) → lookup test es ≡ Some v
      → total ours (after es w) +ℤ worth ours c v ≡ total ours (held_sums es) +ℤ worth ours c w
  exchanged ours es v w h =
      let r = rewritten test es v w h in
      let same : (string_bytes r.0) ≡ c = key r.0 r.1.2 in
      let rest = held_sums (remove_entry test es) in
      let before : total ours (held_sums es) ≡ total ours rest +ℤ worth ours c v =
      subst (λ t. total ours (held_sums es) ≡ total ours rest +ℤ worth ours t v) same (taken ours test es r.0 v r.1.1) in
      let now : total ours (after es w) ≡ total ours rest +ℤ worth ours c w =
      ap (λ t. total ours (held_sums t)) r.1.0 ∙ total-append ours rest (amount (string_bytes r.0) w ∷ []) ∙ ap (λ t. total ours rest +ℤ worth ours t w) same in
      omega (arith, ints)

  pub counted : (ours : List ℕ → Bool) (es : List (String Z × ℤ)) (v w : ℤ) → lookup test es ≡ Some v
      → (rest : Bool) × (has_amount ours (held_sums es) ≡ rest || (ours c || false)) × (has_amount ours (after es w) ≡ rest || (ours c || false))
  counted ours es v w h =
      let r = rewritten test es v w h in
      let same : (string_bytes r.0) ≡ c = key r.0 r.1.2 in
      let rest = held_sums (remove_entry test es) in (
        has_amount ours rest,
        amounts_taken ours test es r.0 v r.1.1 ∙ ap (λ t. has_amount ours rest || (ours t || false)) same,
        ap (λ t. has_amount ours (held_sums t)) r.1.0 ∙ amount-append ours rest (amount (string_bytes r.0) w ∷ []) ∙ ap (λ t. has_amount ours rest || (ours t || false)) same,
      )

  module _ (said : List Sample) (es : List (String Z × ℤ)) (v by : ℤ) (h : lookup test es ≡ Some v) where
    -- the sum is raised
    pub raised : (w : ℤ) → w ≡ v +ℤ by → IsSummary ((said ++ held_sums es) ++ amount c by ∷ []) (said ++ after es w)
    raised w sum = record {
      totals = λ ours.
          let a = total-append ours (said ++ held_sums es) (amount c by ∷ []) in
          let b = total-append ours said (held_sums es) in
          let d = total-append ours said (after es w) in
          let e = exchanged ours es v w h in
          let f : worth ours c w ≡ worth ours c v +ℤ worth ours c by = ap (worth ours c) sum ∙ worth_sum ours c v by in
          omega (arith, ints);
      counters = λ ours.
          let n = counted ours es v w h in
          rw (amount-append ours (said ++ held_sums es) (amount c by ∷ []), amount-append ours said (held_sums es), amount-append ours said (after es w), n.1, n.2) (or_again (has_amount ours said) n.0 (ours c));
      gauges = λ ours. rw (gauge-append ours (said ++ held_sums es) (amount c by ∷ []), gauge-append ours said (held_sums es), gauge-append ours said (after es w), sums_levels ours es, sums_levels ours (set_value test (promoted test es) w)) refl;
      members = λ ours. rw (member-append ours (said ++ held_sums es) (amount c by ∷ []), member-append ours said (held_sums es), member-append ours said (after es w), sums_members ours es, sums_members ours (set_value test (promoted test es) w)) (or_false (has_member ours said || false));
      timings = λ ours x.
          let a = times-append ours x (said ++ held_sums es) (amount c by ∷ []) in
          let b = times-append ours x said (held_sums es) in
          let d = times-append ours x said (after es w) in
          let e = sums_timings ours x es in
          let f = sums_timings ours x (set_value test (promoted test es) w) in
          omega arith;
      rest = rw (others-append (said ++ held_sums es) (amount c by ∷ []), others-append said (held_sums es), others-append said (after es w), sums_others es, sums_others (set_value test (promoted test es) w)) (append-nil (others said ++ []));
      values = λ passes h. still_said passes (said ++ held_sums es) (amount c by ∷ []) (still_said passes said (held_sums es) (only_said passes said (after es w) (sums_values passes (set_value test (promoted test es) w)) h));
      fewer =
          let a = length-append (said ++ held_sums es) (amount c by ∷ []) in
          let b = length-append said (held_sums es) in
          let d = length-append said (after es w) in
          let e = after_length (λ (e : String Z × ℤ). amount (string_bytes e.0) e.1) test es v w h in
          omega arith;
    }

    -- the sum is sent, and the amount takes its place
    pub restarted : IsSummary ((said ++ held_sums es) ++ amount c by ∷ []) ((said ++ amount c v ∷ []) ++ after es by)
    restarted = record {
      totals = λ ours.
          let a = total-append ours (said ++ held_sums es) (amount c by ∷ []) in
          let b = total-append ours said (held_sums es) in
          let d = total-append ours (said ++ amount c v ∷ []) (after es by) in
          let d' = total-append ours said (amount c v ∷ []) in
          let e = exchanged ours es v by h in
          omega (arith, ints);
      counters = λ ours.
          let n = counted ours es v by h in
          rw (amount-append ours (said ++ held_sums es) (amount c by ∷ []), amount-append ours said (held_sums es), amount-append ours (said ++ amount c v ∷ []) (after es by), amount-append ours said (amount c v ∷ []), n.1, n.2) (or_between (has_amount ours said) n.0 (ours c));
      gauges = λ ours. rw (gauge-append ours (said ++ held_sums es) (amount c by ∷ []), gauge-append ours said (held_sums es), gauge-append ours (said ++ amount c v ∷ []) (after es by), gauge-append ours said (amount c v ∷ []), sums_levels ours es, sums_levels ours (set_value test (promoted test es) by)) refl;
      members = λ ours. rw (member-append ours (said ++ held_sums es) (amount c by ∷ []), member-append ours said (held_sums es), member-append ours (said ++ amount c v ∷ []) (after es by), member-append ours said (amount c v ∷ []), sums_members ours es, sums_members ours (set_value test (promoted test es) by)) refl;
      timings = λ ours x.
          let a = times-append ours x (said ++ held_sums es) (amount c by ∷ []) in
          let b = times-append ours x said (held_sums es) in
          let d = times-append ours x (said ++ amount c v ∷ []) (after es by) in
          let d' = times-append ours x said (amount c v ∷ []) in
          let e = sums_timings ours x es in
          let f = sums_timings ours x (set_value test (promoted test es) by) in
          omega arith;
      rest = rw (others-append (said ++ held_sums es) (amount c by ∷ []), others-append said (held_sums es), others-append (said ++ amount c v ∷ []) (after es by), others-append said (amount c v ∷ []), sums_others es, sums_others (set_value test (promoted test es) by)) refl;
      values = λ passes h. still_said passes (said ++ held_sums es) (amount c by ∷ []) (still_said passes said (held_sums es) (only_said passes said (amount c v ∷ []) refl (only_said passes (said ++ amount c v ∷ []) (after es by) (sums_values passes (set_value test (promoted test es) by)) h)));
      fewer =
          let a = length-append (said ++ held_sums es) (amount c by ∷ []) in
          let b = length-append said (held_sums es) in
          let d = length-append (said ++ amount c v ∷ []) (after es by) in
          let d' = length-append said (amount c v ∷ []) in
          let e = after_length (λ (e : String Z × ℤ). amount (string_bytes e.0) e.1) test es v by h in
          omega arith;
    }

    -- nothing is written
    pub unwritten : IsSummary (said ++ held_sums es) (said ++ after es v)
    unwritten = record {
      totals = λ ours.
          let b = total-append ours said (held_sums es) in
          let d = total-append ours said (after es v) in
          let e = exchanged ours es v v h in
          omega (arith, ints);
      counters = λ ours.
          let n = counted ours es v v h in
          rw (amount-append ours said (held_sums es), amount-append ours said (after es v), n.1, n.2) refl;
      gauges = λ ours. rw (gauge-append ours said (held_sums es), gauge-append ours said (after es v), sums_levels ours es, sums_levels ours (set_value test (promoted test es) v)) refl;
      members = λ ours. rw (member-append ours said (held_sums es), member-append ours said (after es v), sums_members ours es, sums_members ours (set_value test (promoted test es) v)) refl;
      timings = λ ours x.
          let b = times-append ours x said (held_sums es) in
          let d = times-append ours x said (after es v) in
          let e = sums_timings ours x es in
          let f = sums_timings ours x (set_value test (promoted test es) v) in
          omega arith;
      rest = rw (others-append said (held_sums es), others-append said (after es v), sums_others es, sums_others (set_value test (promoted test es) v)) refl;
      values = λ passes h. still_said passes said (held_sums es) (only_said passes said (after es v) (sums_values passes (set_value test (promoted test es) v)) h);
      fewer =
          let b = length-append said (held_sums es) in
          let d = length-append said (after es v) in
          let e = after_length (λ (e : String Z × ℤ). amount (string_bytes e.0) e.1) test es v v h in
          omega arith;
    }
