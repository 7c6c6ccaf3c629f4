-- A server knows the same once values are appended in place.
use Rattle.std.specs.Prelude.{String, string_bytes}
use Rattle.std.proofs.Common.{◌≡◌, ℕ, ◌+◌, Bool, true, false, cond, List, [], ◌∷◌, ◌++◌, Some, refl, ap, subst, ◌∙◌, arith, append-nil, length-append}
use Rattle.std.specs.Prelude.{◌||◌, ◌==◌, nat_eq, count_by}
use Rattle.std.specs.Cmp.Lexicographic.{pointwise}
use Rattle.std.specs.List.{onto_first}
use Rattle.std.specs.Map.{lookup, remove_entry, set_value}
use Rattle.std.proofs.lemmas.Int.{ints}
use Rattle.std.proofs.lemmas.List.Sums.{sum_by-append}
use Rattle.lru.specs.LruCache.{promoted}
use Rattle.cadence_aggregate.specs.Server.{Sample, timing, values_in, times_in, has_member, has_amount, times, others, IsSummary}
use Rattle.cadence_aggregate.specs.Held.{held_timings}
use Rattle.cadence_aggregate.proofs.Observed.{total-append, gauge-append, member-append, times-append, amount-append, others-append, only_said, still_said}
use Rattle.cadence_aggregate.proofs.Tables.{rewritten, after_length}
use Rattle.cadence_aggregate.proofs.Rewrites.{timings_taken, timings_totals, timings_levels, timings_members, timings_amounts, timings_others, timings_values}

or_false : (b : Bool) → b || false ≡ b
or_false true = refl
or_false false = refl

-- a text has at least one value
some_value : (text : List ℕ) → (first : List ℕ) × (others : List (List ℕ)) × (values_in text ≡ first ∷ others)
some_value [] = ([], [], refl)
some_value (b ∷ text) = (elim (b == 58) as (λ y. (first : List ℕ) × (others : List (List ℕ)) × (cond y ([] ∷ values_in text) (onto_first b (values_in text)) ≡ first ∷ others)) [
  | true ↦ ([], values_in text, refl)
  | false ↦ let h = some_value text in (b ∷ h.0, h.1, rw h.2 refl)
])

-- a text that is continued after a colon has the values of both
pub values_more : (text more : List ℕ) → values_in (text ++ 58 ∷ more) ≡ values_in text ++ values_in more
values_more [] more = refl
values_more (b ∷ text) more =
    let h = some_value text in
    let rest = values_more text more in
    (elim (b == 58) as (λ y. cond y ([] ∷ values_in (text ++ 58 ∷ more)) (onto_first b (values_in (text ++ 58 ∷ more))) ≡ cond y ([] ∷ values_in text) (onto_first b (values_in text)) ++ values_in more) [
      | true ↦ ap (λ t. [] ∷ t) rest
      | false ↦ rw (rest, h.2) refl
    ])

times_more : (x text more : List ℕ) → times_in x (text ++ 58 ∷ more) ≡ times_in x text + times_in x more
times_more x text more = ap (count_by (pointwise nat_eq x)) (values_more text more) ∙ sum_by-append (λ y. cond (pointwise nat_eq x y) 1 0) (values_in text) (values_in more)

-- how often one line says a value
abbrev pub worth : (List ℕ → Bool) → List ℕ → List ℕ → List ℕ → ℕ
worth ours x c t = times ours x (timing c t ∷ [])

worth_more : (ours : List ℕ → Bool) (x c t u : List ℕ) → worth ours x c (t ++ 58 ∷ u) ≡ worth ours x c t + worth ours x c u
worth_more ours x c t u =
    let h = times_more x t u in
    elim (ours c) as (λ b. cond b (times_in x (t ++ 58 ∷ u)) 0 + 0 ≡ (cond b (times_in x t) 0 + 0) + (cond b (times_in x u) 0 + 0)) [
      | true ↦ omega arith
      | false ↦ refl
    ]

module _ {Z : Type 0} (test : String Z → Bool) (c : List ℕ) (key : (k : String Z) → test k ≡ true → (string_bytes k) ≡ c) where
  abbrev after : List (String Z × String Z) → String Z → List Sample
  after es w = held_timings (set_value test (promoted test es) w)

  pub exchanged : (ours : List ℕ → Bool) (x : List ℕ) (es : List (String Z × String Z)) (v w : String Z) → lookup test es ≡ Some v
      → times ours x (after es w) + worth ours x c (string_bytes v) ≡ times ours x (held_timings es) + worth ours x c (string_bytes w)
  exchanged ours x es v w h =
      let r = rewritten test es v w h in
      let same : (string_bytes r.0) ≡ c = key r.0 r.1.2 in
      let rest = held_timings (remove_entry test es) in
      let before : times ours x (held_timings es) ≡ times ours x rest + worth ours x c (string_bytes v) =
      subst (λ t. times ours x (held_timings es) ≡ times ours x rest + worth ours x t (string_bytes v)) same (timings_taken ours x test es r.0 v r.1.1) in
      let now : times ours x (after es w) ≡ times ours x rest + worth ours x c (string_bytes w) =
      ap (λ t. times ours x (held_timings t)) r.1.0 ∙ times-append ours x rest (timing (string_bytes r.0) (string_bytes w) ∷ []) ∙ ap (λ t. times ours x rest + worth ours x t (string_bytes w)) same in
      omega arith

  module _ (said : List Sample) (es : List (String Z × String Z)) (v w : String Z) (h : lookup test es ≡ Some v) where
    pub appended : (more : List ℕ) → (string_bytes w) ≡ (string_bytes v) ++ 58 ∷ more → IsSummary ((said ++ held_timings es) ++ timing c more ∷ []) (said ++ after es w)
    appended more grown = record {
      totals = λ ours. rw (total-append ours (said ++ held_timings es) (timing c more ∷ []), total-append ours said (held_timings es), total-append ours said (after es w), timings_totals ours es, timings_totals ours (set_value test (promoted test es) w)) (omega (arith, ints));
      counters = λ ours. rw (amount-append ours (said ++ held_timings es) (timing c more ∷ []), amount-append ours said (held_timings es), amount-append ours said (after es w), timings_amounts ours es, timings_amounts ours (set_value test (promoted test es) w)) (or_false (has_amount ours said || false));
      gauges = λ ours. rw (gauge-append ours (said ++ held_timings es) (timing c more ∷ []), gauge-append ours said (held_timings es), gauge-append ours said (after es w), timings_levels ours es, timings_levels ours (set_value test (promoted test es) w)) refl;
      members = λ ours. rw (member-append ours (said ++ held_timings es) (timing c more ∷ []), member-append ours said (held_timings es), member-append ours said (after es w), timings_members ours es, timings_members ours (set_value test (promoted test es) w)) (or_false (has_member ours said || false));
      timings = λ ours x.
          let a = times-append ours x (said ++ held_timings es) (timing c more ∷ []) in
          let b = times-append ours x said (held_timings es) in
          let d = times-append ours x said (after es w) in
          let e = exchanged ours x es v w h in
          let f : worth ours x c (string_bytes w) ≡ worth ours x c (string_bytes v) + worth ours x c more = ap (worth ours x c) grown ∙ worth_more ours x c (string_bytes v) more in
          omega arith;
      rest = rw (others-append (said ++ held_timings es) (timing c more ∷ []), others-append said (held_timings es), others-append said (after es w), timings_others es, timings_others (set_value test (promoted test es) w)) (append-nil (others said ++ []));
      values = λ passes h. still_said passes (said ++ held_timings es) (timing c more ∷ []) (still_said passes said (held_timings es) (only_said passes said (after es w) (timings_values passes (set_value test (promoted test es) w)) h));
      fewer =
          let a = length-append (said ++ held_timings es) (timing c more ∷ []) in
          let b = length-append said (held_timings es) in
          let d = length-append said (after es w) in
          let e = after_length (λ (e : String Z × String Z). timing (string_bytes e.0) (string_bytes e.1)) test es v w h in
          omega arith;
    }

    -- the values are sent, and new ones take their place
    pub restarted : (more : List ℕ) → (string_bytes w) ≡ more → IsSummary ((said ++ held_timings es) ++ timing c more ∷ []) ((said ++ timing c (string_bytes v) ∷ []) ++ after es w)
    restarted more fresh = record {
      totals = λ ours. rw (total-append ours (said ++ held_timings es) (timing c more ∷ []), total-append ours said (held_timings es), total-append ours (said ++ timing c (string_bytes v) ∷ []) (after es w), total-append ours said (timing c (string_bytes v) ∷ []), timings_totals ours es, timings_totals ours (set_value test (promoted test es) w)) refl;
      counters = λ ours. rw (amount-append ours (said ++ held_timings es) (timing c more ∷ []), amount-append ours said (held_timings es), amount-append ours (said ++ timing c (string_bytes v) ∷ []) (after es w), amount-append ours said (timing c (string_bytes v) ∷ []), timings_amounts ours es, timings_amounts ours (set_value test (promoted test es) w)) refl;
      gauges = λ ours. rw (gauge-append ours (said ++ held_timings es) (timing c more ∷ []), gauge-append ours said (held_timings es), gauge-append ours (said ++ timing c (string_bytes v) ∷ []) (after es w), gauge-append ours said (timing c (string_bytes v) ∷ []), timings_levels ours es, timings_levels ours (set_value test (promoted test es) w)) refl;
      members = λ ours. rw (member-append ours (said ++ held_timings es) (timing c more ∷ []), member-append ours said (held_timings es), member-append ours (said ++ timing c (string_bytes v) ∷ []) (after es w), member-append ours said (timing c (string_bytes v) ∷ []), timings_members ours es, timings_members ours (set_value test (promoted test es) w)) refl;
      timings = λ ours x.
          let a = times-append ours x (said ++ held_timings es) (timing c more ∷ []) in
          let b = times-append ours x said (held_timings es) in
          let d = times-append ours x (said ++ timing c (string_bytes v) ∷ []) (after es w) in
          let d' = times-append ours x said (timing c (string_bytes v) ∷ []) in
          let e = exchanged ours x es v w h in
          let f : worth ours x c (string_bytes w) ≡ worth ours x c more = ap (worth ours x c) fresh in
          omega arith;
      rest = rw (others-append (said ++ held_timings es) (timing c more ∷ []), others-append said (held_timings es), others-append (said ++ timing c (string_bytes v) ∷ []) (after es w), others-append said (timing c (string_bytes v) ∷ []), timings_others es, timings_others (set_value test (promoted test es) w)) refl;
      values = λ passes h. still_said passes (said ++ held_timings es) (timing c more ∷ []) (still_said passes said (held_timings es) (only_said passes said (timing c (string_bytes v) ∷ []) refl (only_said passes (said ++ timing c (string_bytes v) ∷ []) (after es w) (timings_values passes (set_value test (promoted test es) w)) h)));
      fewer =
          let a = length-append (said ++ held_timings es) (timing c more ∷ []) in
          let b = length-append said (held_timings es) in
          let d = length-append (said ++ timing c (string_bytes v) ∷ []) (after es w) in
          let d' = length-append said (timing c (string_bytes v) ∷ []) in
          let e = after_length (λ (e : String Z × String Z). timing (string_bytes e.0) (string_bytes e.1)) test es v w h in
          omega arith;
    }

    -- the text stays the same
    pub unwritten : (string_bytes w) ≡ (string_bytes v) → IsSummary (said ++ held_timings es) (said ++ after es w)
    unwritten same = record {
      totals = λ ours. rw (total-append ours said (held_timings es), total-append ours said (after es w), timings_totals ours es, timings_totals ours (set_value test (promoted test es) w)) refl;
      counters = λ ours. rw (amount-append ours said (held_timings es), amount-append ours said (after es w), timings_amounts ours es, timings_amounts ours (set_value test (promoted test es) w)) refl;
      gauges = λ ours. rw (gauge-append ours said (held_timings es), gauge-append ours said (after es w), timings_levels ours es, timings_levels ours (set_value test (promoted test es) w)) refl;
      members = λ ours. rw (member-append ours said (held_timings es), member-append ours said (after es w), timings_members ours es, timings_members ours (set_value test (promoted test es) w)) refl;
      timings = λ ours x.
          let b = times-append ours x said (held_timings es) in
          let d = times-append ours x said (after es w) in
          let e = exchanged ours x es v w h in
          let f : worth ours x c (string_bytes w) ≡ worth ours x c (string_bytes v) = ap (worth ours x c) same in
          omega arith;
      rest = rw (others-append said (held_timings es), others-append said (after es w), timings_others es, timings_others (set_value test (promoted test es) w)) refl;
      values = λ passes h. still_said passes said (held_timings es) (only_said passes said (after es w) (timings_values passes (set_value test (promoted test es) w)) h);
      fewer =
          let b = length-append said (held_timings es) in
          let d = length-append said (after es w) in
          let e = after_length (λ (e : String Z × String Z). timing (string_bytes e.0) (string_bytes e.1)) test es v w h in
          omega arith;
    }
