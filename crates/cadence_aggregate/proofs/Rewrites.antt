-- What a server knows after what is held, once an entry is rewritten.
use Rattle.std.specs.Prelude.{String, string_bytes}
use Rattle.std.proofs.Common.{◌≡◌, ℕ, Bool, true, false, cond, List, [], ◌∷◌, Some, refl, sym, ap, ◌∙◌, arith, ◌+◌}
use Rattle.std.specs.Prelude.{ℤ, pos, ◌+ℤ◌, ◌||◌}
use Rattle.std.specs.Map.{lookup_entry, remove_entry}
use Rattle.std.proofs.lemmas.Int.{ints}
use Rattle.cadence_aggregate.specs.Server.{amount, level, member, timing, total, gauge, has_member, has_amount, has_level, times, others, later}
use Rattle.cadence_aggregate.specs.Held.{held_sums, held_levels, held_members, held_timings}
use Rattle.cadence_aggregate.proofs.Observed.{total-append, gauge-append, member-append, times-append, amount-append, others-append, level-append, still_said, level_after}

or_swap : (a b c : Bool) → (a || b) || c ≡ (a || c) || b
or_swap true b c = refl
or_swap false true true = refl
or_swap false true false = refl
or_swap false false true = refl
or_swap false false false = refl

any_true : (b : Bool) → b || (true || false) ≡ true
any_true true = refl
any_true false = refl

module _ {Z : Type 0} (ours : List ℕ → Bool) where
  -- sums are no levels and no members, and so on
  pub sums_levels : (es : List (String Z × ℤ)) → gauge ours (held_sums es) ≡ []
  sums_levels [] = refl
  sums_levels (e ∷ es) = gauge-append ours (held_sums es) (amount (string_bytes e.0) e.1 ∷ []) ∙ sums_levels es

  pub sums_members : (es : List (String Z × ℤ)) → has_member ours (held_sums es) ≡ false
  sums_members [] = refl
  sums_members (e ∷ es) = rw (member-append ours (held_sums es) (amount (string_bytes e.0) e.1 ∷ []), sums_members es) refl

  pub levels_totals : (es : List (String Z × String Z)) → total ours (held_levels es) ≡ pos 0
  levels_totals [] = refl
  levels_totals (e ∷ es) = rw (total-append ours (held_levels es) (level (string_bytes e.0) (string_bytes e.1) ∷ []), levels_totals es) refl

  pub levels_members : (es : List (String Z × String Z)) → has_member ours (held_levels es) ≡ false
  levels_members [] = refl
  levels_members (e ∷ es) = rw (member-append ours (held_levels es) (level (string_bytes e.0) (string_bytes e.1) ∷ []), levels_members es) refl

  pub members_levels : (es : List (String Z × Unit {0})) → gauge ours (held_members es) ≡ []
  members_levels [] = refl
  members_levels (e ∷ es) = gauge-append ours (held_members es) (member (string_bytes e.0) ∷ []) ∙ members_levels es

  pub sums_timings : (x : List ℕ) (es : List (String Z × ℤ)) → times ours x (held_sums es) ≡ 0
  sums_timings x [] = refl
  sums_timings x (e ∷ es) = times-append ours x (held_sums es) (amount (string_bytes e.0) e.1 ∷ []) ∙ rw (sums_timings x es) refl

  pub levels_timings : (x : List ℕ) (es : List (String Z × String Z)) → times ours x (held_levels es) ≡ 0
  levels_timings x [] = refl
  levels_timings x (e ∷ es) = times-append ours x (held_levels es) (level (string_bytes e.0) (string_bytes e.1) ∷ []) ∙ rw (levels_timings x es) refl

  pub timings_totals : (es : List (String Z × String Z)) → total ours (held_timings es) ≡ pos 0
  timings_totals [] = refl
  timings_totals (e ∷ es) = rw (total-append ours (held_timings es) (timing (string_bytes e.0) (string_bytes e.1) ∷ []), timings_totals es) refl

  pub timings_levels : (es : List (String Z × String Z)) → gauge ours (held_timings es) ≡ []
  timings_levels [] = refl
  timings_levels (e ∷ es) = gauge-append ours (held_timings es) (timing (string_bytes e.0) (string_bytes e.1) ∷ []) ∙ timings_levels es

  pub timings_members : (es : List (String Z × String Z)) → has_member ours (held_timings es) ≡ false
  timings_members [] = refl
  timings_members (e ∷ es) = rw (member-append ours (held_timings es) (timing (string_bytes e.0) (string_bytes e.1) ∷ []), timings_members es) refl

  -- the values of all entries are those of the others, and of the one that is found
  pub timings_taken : (x : List ℕ) (test : String Z → Bool) (es : List (String Z × String Z)) (k : String Z) (v : String Z) → lookup_entry test es ≡ Some (k, v)
      → times ours x (held_timings es) ≡ times ours x (held_timings (remove_entry test es)) + times ours x (timing (string_bytes k) (string_bytes v) ∷ [])
  timings_taken x test [] k v h = cc
  timings_taken x test (e ∷ es) k v h = (elim (test e.0) as (λ b. cond b (Some e) (lookup_entry test es) ≡ Some (k, v)
      → times ours x (held_timings (e ∷ es)) ≡ times ours x (held_timings (cond b es (e ∷ remove_entry test es))) + times ours x (timing (string_bytes k) (string_bytes v) ∷ [])) [
        | true ↦ λ s. let same : e ≡ (k, v) = cc in
            times-append ours x (held_timings es) (timing (string_bytes e.0) (string_bytes e.1) ∷ []) ∙ ap (λ (f : String Z × String Z). times ours x (held_timings es) + times ours x (timing (string_bytes f.0) (string_bytes f.1) ∷ [])) same
        | false ↦ λ s.
            let rest = timings_taken x test es k v s in
            let one = times-append ours x (held_timings es) (timing (string_bytes e.0) (string_bytes e.1) ∷ []) in
            let two = times-append ours x (held_timings (remove_entry test es)) (timing (string_bytes e.0) (string_bytes e.1) ∷ []) in
            omega arith
      ]) h

  pub levels_amounts : (es : List (String Z × String Z)) → has_amount ours (held_levels es) ≡ false
  levels_amounts [] = refl
  levels_amounts (e ∷ es) = rw (amount-append ours (held_levels es) (level (string_bytes e.0) (string_bytes e.1) ∷ []), levels_amounts es) refl

  pub timings_amounts : (es : List (String Z × String Z)) → has_amount ours (held_timings es) ≡ false
  timings_amounts [] = refl
  timings_amounts (e ∷ es) = rw (amount-append ours (held_timings es) (timing (string_bytes e.0) (string_bytes e.1) ∷ []), timings_amounts es) refl

  -- a counter is raised by one of the others, or by the one that is found
  pub amounts_taken : (test : String Z → Bool) (es : List (String Z × ℤ)) (k : String Z) (v : ℤ) → lookup_entry test es ≡ Some (k, v)
      → has_amount ours (held_sums es) ≡ has_amount ours (held_sums (remove_entry test es)) || (ours (string_bytes k) || false)
  amounts_taken test [] k v h = cc
  amounts_taken test (e ∷ es) k v h = (elim (test e.0) as (λ b. cond b (Some e) (lookup_entry test es) ≡ Some (k, v)
      → has_amount ours (held_sums (e ∷ es)) ≡ has_amount ours (held_sums (cond b es (e ∷ remove_entry test es))) || (ours (string_bytes k) || false)) [
        | true ↦ λ s. let same : e ≡ (k, v) = cc in
            amount-append ours (held_sums es) (amount (string_bytes e.0) e.1 ∷ []) ∙ ap (λ (f : String Z × ℤ). has_amount ours (held_sums es) || (ours (string_bytes f.0) || false)) same
        | false ↦ λ s.
            amount-append ours (held_sums es) (amount (string_bytes e.0) e.1 ∷ [])
            ∙ ap (λ b. b || (ours (string_bytes e.0) || false)) (amounts_taken test es k v s)
            ∙ or_swap (has_amount ours (held_sums (remove_entry test es))) (ours (string_bytes k) || false) (ours (string_bytes e.0) || false)
            ∙ ap (λ b. b || (ours (string_bytes k) || false)) (sym (amount-append ours (held_sums (remove_entry test es)) (amount (string_bytes e.0) e.1 ∷ [])))
      ]) h

  -- what the entries say in all is what the others say, and the one that is found
  pub taken : (test : String Z → Bool) (es : List (String Z × ℤ)) (k : String Z) (v : ℤ) → lookup_entry test es ≡ Some (k, v)
      → total ours (held_sums es) ≡ total ours (held_sums (remove_entry test es)) +ℤ total ours (amount (string_bytes k) v ∷ [])
  taken test [] k v h = cc
  taken test (e ∷ es) k v h = (elim (test e.0) as (λ b. cond b (Some e) (lookup_entry test es) ≡ Some (k, v)
      → total ours (held_sums (e ∷ es)) ≡ total ours (held_sums (cond b es (e ∷ remove_entry test es))) +ℤ total ours (amount (string_bytes k) v ∷ [])) [
        | true ↦ λ s. let same : e ≡ (k, v) = cc in
            total-append ours (held_sums es) (amount (string_bytes e.0) e.1 ∷ []) ∙ ap (λ (f : String Z × ℤ). total ours (held_sums es) +ℤ total ours (amount (string_bytes f.0) f.1 ∷ [])) same
        | false ↦ λ s.
            let rest = taken test es k v s in
            let one = total-append ours (held_sums es) (amount (string_bytes e.0) e.1 ∷ []) in
            let two = total-append ours (held_sums (remove_entry test es)) (amount (string_bytes e.0) e.1 ∷ []) in
            omega (arith, ints)
      ]) h

  -- a level of another server's context doesn't matter
  pub untaken : (test : String Z → Bool) (es : List (String Z × String Z)) (k : String Z) (v : String Z) → lookup_entry test es ≡ Some (k, v) → ours (string_bytes k) ≡ false
      → gauge ours (held_levels (remove_entry test es)) ≡ gauge ours (held_levels es)
  untaken test [] k v h off = cc
  untaken test (e ∷ es) k v h off = (elim (test e.0) as (λ b. cond b (Some e) (lookup_entry test es) ≡ Some (k, v)
      → gauge ours (held_levels (cond b es (e ∷ remove_entry test es))) ≡ gauge ours (held_levels (e ∷ es))) [
        | true ↦ λ s. let same : e ≡ (k, v) = cc in
            let its : ours (string_bytes e.0) ≡ false = ap (λ (f : String Z × String Z). ours (string_bytes f.0)) same ∙ off in
            sym (gauge-append ours (held_levels es) (level (string_bytes e.0) (string_bytes e.1) ∷ []) ∙ rw its refl)
        | false ↦ λ s.
            gauge-append ours (held_levels (remove_entry test es)) (level (string_bytes e.0) (string_bytes e.1) ∷ [])
            ∙ ap (λ t. later t (gauge ours (level (string_bytes e.0) (string_bytes e.1) ∷ []))) (untaken test es k v s off)
            ∙ sym (gauge-append ours (held_levels es) (level (string_bytes e.0) (string_bytes e.1) ∷ []))
      ]) h

  -- a member that is found is one
  pub is_member : (test : String Z → Bool) (es : List (String Z × Unit {0})) (k : String Z) (v : Unit {0}) → lookup_entry test es ≡ Some (k, v) → ours (string_bytes k) ≡ true
      → has_member ours (held_members es) ≡ true
  is_member test [] k v h on = cc
  is_member test (e ∷ es) k v h on = (elim (test e.0) as (λ b. cond b (Some e) (lookup_entry test es) ≡ Some (k, v) → has_member ours (held_members (e ∷ es)) ≡ true) [
    | true ↦ λ s. let same : e ≡ (k, v) = cc in
        let its : ours (string_bytes e.0) ≡ true = ap (λ (f : String Z × Unit {0}). ours (string_bytes f.0)) same ∙ on in
        member-append ours (held_members es) (member (string_bytes e.0) ∷ []) ∙ rw its (any_true (has_member ours (held_members es)))
    | false ↦ λ s. member-append ours (held_members es) (member (string_bytes e.0) ∷ []) ∙ rw (is_member test es k v s on) refl
  ]) h

module _ {Z : Type 0} where
  -- what is held has no other lines
  pub sums_others : (es : List (String Z × ℤ)) → others (held_sums es) ≡ []
  sums_others [] = refl
  sums_others (e ∷ es) = others-append (held_sums es) (amount (string_bytes e.0) e.1 ∷ []) ∙ rw (sums_others es) refl

  pub levels_others : (es : List (String Z × String Z)) → others (held_levels es) ≡ []
  levels_others [] = refl
  levels_others (e ∷ es) = others-append (held_levels es) (level (string_bytes e.0) (string_bytes e.1) ∷ []) ∙ rw (levels_others es) refl

  pub members_others : (es : List (String Z × Unit {0})) → others (held_members es) ≡ []
  members_others [] = refl
  members_others (e ∷ es) = others-append (held_members es) (member (string_bytes e.0) ∷ []) ∙ rw (members_others es) refl

  pub timings_others : (es : List (String Z × String Z)) → others (held_timings es) ≡ []
  timings_others [] = refl
  timings_others (e ∷ es) = others-append (held_timings es) (timing (string_bytes e.0) (string_bytes e.1) ∷ []) ∙ rw (timings_others es) refl

module _ {Z : Type 0} (passes : List ℕ → List ℕ → Bool) where
  -- what is held of counters and timers sets no gauge
  pub sums_values : (es : List (String Z × ℤ)) → has_level passes (held_sums es) ≡ false
  sums_values [] = refl
  sums_values (e ∷ es) = level-append passes (held_sums es) (amount (string_bytes e.0) e.1 ∷ []) ∙ rw (sums_values es) refl

  pub timings_values : (es : List (String Z × String Z)) → has_level passes (held_timings es) ≡ false
  timings_values [] = refl
  timings_values (e ∷ es) = level-append passes (held_timings es) (timing (string_bytes e.0) (string_bytes e.1) ∷ []) ∙ rw (timings_values es) refl

  -- with an entry less there are no more values
  pub levels_less : (test : String Z → Bool) (es : List (String Z × String Z)) → has_level passes (held_levels (remove_entry test es)) ≡ true → has_level passes (held_levels es) ≡ true
  levels_less test [] h = h
  levels_less test (e ∷ es) h = (elim (test e.0) as (λ b. has_level passes (held_levels (cond b es (e ∷ remove_entry test es))) ≡ true → has_level passes (held_levels (e ∷ es)) ≡ true) [
    | true ↦ λ s. still_said passes (held_levels es) (level (string_bytes e.0) (string_bytes e.1) ∷ []) s
    | false ↦ λ s. level_after passes (held_levels es) (held_levels (remove_entry test es)) (level (string_bytes e.0) (string_bytes e.1) ∷ []) (levels_less test es) s
  ]) h
