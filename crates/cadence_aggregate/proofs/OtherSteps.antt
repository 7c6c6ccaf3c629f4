-- A server knows the same once a level is set in place, and if a member that is held comes again.
use Rattle.std.specs.Prelude.{String, string_bytes}
use Rattle.std.proofs.Common.{◌≡◌, ℕ, Bool, true, false, cond, List, [], ◌∷◌, ◌++◌, Some, refl, sym, ap, subst, ◌∙◌, arith, append-nil, length-append}
use Rattle.std.specs.Prelude.{◌||◌}
use Rattle.std.specs.Map.{lookup, remove_entry, set_value}
use Rattle.std.proofs.lemmas.Int.{ints}
use Rattle.lru.specs.LruCache.{promoted}
use Rattle.cadence_aggregate.specs.Server.{Sample, level, member, gauge, has_member, has_amount, has_level, others, Setting, set_to, later, is_plain, IsSummary}
use Rattle.cadence_aggregate.specs.Held.{held_levels, held_members}
use Rattle.cadence_aggregate.proofs.Observed.{total-append, gauge-append, member-append, times-append, amount-append, others-append, level-append, still_said, later_assoc, or_assoc, same_of}
use Rattle.cadence_aggregate.proofs.Tables.{rewritten, found_entry, after_length}
use Rattle.cadence_aggregate.proofs.Rewrites.{untaken, is_member, levels_totals, levels_members, levels_timings, levels_amounts, levels_others, levels_less}

or_false : (b : Bool) → b || false ≡ b
or_false true = refl
or_false false = refl

or_regroup : (s r e x : Bool) → (r ≡ true → e ≡ true) → s || (r || x) ≡ true → (s || e) || x ≡ true
or_regroup true r e x f h = refl
or_regroup false true e x f h = rw (f refl) refl
or_regroup false false true x f h = refl
or_regroup false false false x f h = h

-- a plain value replaces the earlier ones
plain_last : (x : List Setting) (v : List ℕ) → is_plain v ≡ true → later x (set_to v ∷ []) ≡ set_to v ∷ []
plain_last x v h = rw h refl

module _ {Z : Type 0} (test : String Z → Bool) (c : List ℕ) (key : (k : String Z) → test k ≡ true → (string_bytes k) ≡ c) where
  abbrev after : List (String Z × String Z) → String Z → List Sample
  after es w = held_levels (set_value test (promoted test es) w)

  -- the plain value that was set replaces the earlier ones
  pub last_set : (ours : List ℕ → Bool) (es : List (String Z × String Z)) (v w : String Z) → lookup test es ≡ Some v → is_plain (string_bytes w) ≡ true
      → gauge ours (after es w) ≡ later (gauge ours (held_levels es)) (gauge ours (level c (string_bytes w) ∷ []))
  last_set ours es v w h plain =
      let r = rewritten test es v w h in
      let same : (string_bytes r.0) ≡ c = key r.0 r.1.2 in
      let rest = held_levels (remove_entry test es) in
      let now : gauge ours (after es w) ≡ later (gauge ours rest) (gauge ours (level c (string_bytes w) ∷ [])) =
      ap (λ t. gauge ours (held_levels t)) r.1.0 ∙ gauge-append ours rest (level (string_bytes r.0) (string_bytes w) ∷ []) ∙ ap (λ t. later (gauge ours rest) (gauge ours (level t (string_bytes w) ∷ []))) same in
      now ∙ (elim (ours c) as (λ b. ours c ≡ b → later (gauge ours rest) (cond b (set_to (string_bytes w) ∷ []) []) ≡ later (gauge ours (held_levels es)) (cond b (set_to (string_bytes w) ∷ []) [])) [
        | true ↦ λ t. plain_last (gauge ours rest) (string_bytes w) plain ∙ sym (plain_last (gauge ours (held_levels es)) (string_bytes w) plain)
        | false ↦ λ t. untaken ours test es r.0 v r.1.1 (ap ours same ∙ t)
      ]) refl

  -- each value was held before, or is the one that was set
  no_new_value : (passes : List ℕ → List ℕ → Bool) (said : List Sample) (es : List (String Z × String Z)) (v w : String Z) → lookup test es ≡ Some v
      → has_level passes (said ++ after es w) ≡ true → has_level passes ((said ++ held_levels es) ++ level c (string_bytes w) ∷ []) ≡ true
  no_new_value passes said es v w h shown =
      let r = rewritten test es v w h in
      let same : (string_bytes r.0) ≡ c = key r.0 r.1.2 in
      let rest = held_levels (remove_entry test es) in
      let x = level c (string_bytes w) ∷ [] in
      let now : has_level passes (after es w) ≡ has_level passes rest || has_level passes x =
      ap (λ t. has_level passes (held_levels t)) r.1.0 ∙ level-append passes rest (level (string_bytes r.0) (string_bytes w) ∷ []) ∙ ap (λ t. has_level passes rest || has_level passes (level t (string_bytes w) ∷ [])) same in
      let split : has_level passes said || (has_level passes rest || has_level passes x) ≡ true =
      ap (λ b. has_level passes said || b) (sym now) ∙ sym (level-append passes said (after es w)) ∙ shown in
      level-append passes (said ++ held_levels es) x
      ∙ ap (λ b. b || has_level passes x) (level-append passes said (held_levels es))
      ∙ or_regroup (has_level passes said) (has_level passes rest) (has_level passes (held_levels es)) (has_level passes x) (levels_less passes test es) split

  pub level_set : (said : List Sample) (es : List (String Z × String Z)) (v w : String Z) → lookup test es ≡ Some v → is_plain (string_bytes w) ≡ true
      → IsSummary ((said ++ held_levels es) ++ level c (string_bytes w) ∷ []) (said ++ after es w)
  level_set said es v w h plain = record {
    totals = λ ours. rw (total-append ours (said ++ held_levels es) (level c (string_bytes w) ∷ []), total-append ours said (held_levels es), total-append ours said (after es w), levels_totals ours es, levels_totals ours (set_value test (promoted test es) w)) (omega (arith, ints));
    counters = λ ours. rw (amount-append ours (said ++ held_levels es) (level c (string_bytes w) ∷ []), amount-append ours said (held_levels es), amount-append ours said (after es w), levels_amounts ours es, levels_amounts ours (set_value test (promoted test es) w)) (or_false (has_amount ours said || false));
    gauges = λ ours.
        let x = level c (string_bytes w) ∷ [] in
        gauge-append ours (said ++ held_levels es) x
        ∙ ap (λ t. later t (gauge ours x)) (gauge-append ours said (held_levels es))
        ∙ later_assoc ours (gauge ours said) (gauge ours (held_levels es)) (gauge ours x)
        ∙ ap (later (gauge ours said)) (sym (last_set ours es v w h plain))
        ∙ sym (gauge-append ours said (after es w));
    members = λ ours. rw (member-append ours (said ++ held_levels es) (level c (string_bytes w) ∷ []), member-append ours said (held_levels es), member-append ours said (after es w), levels_members ours es, levels_members ours (set_value test (promoted test es) w)) (or_false (has_member ours said || false));
    timings = λ ours x.
        let a = times-append ours x (said ++ held_levels es) (level c (string_bytes w) ∷ []) in
        let b = times-append ours x said (held_levels es) in
        let d = times-append ours x said (after es w) in
        let e = levels_timings ours x es in
        let f = levels_timings ours x (set_value test (promoted test es) w) in
        omega arith;
    values = λ passes. no_new_value passes said es v w h;
    rest = rw (others-append (said ++ held_levels es) (level c (string_bytes w) ∷ []), others-append said (held_levels es), others-append said (after es w), levels_others es, levels_others (set_value test (promoted test es) w)) (append-nil (others said ++ []));
    fewer =
        let a = length-append (said ++ held_levels es) (level c (string_bytes w) ∷ []) in
        let b = length-append said (held_levels es) in
        let d = length-append said (after es w) in
        let e = after_length (λ (e : String Z × String Z). level (string_bytes e.0) (string_bytes e.1)) test es v w h in
        omega arith;
  }

  pub level_put : (said : List Sample) (es : List (String Z × String Z)) (v w : String Z) → lookup test es ≡ Some v
      → (value : List ℕ) → (string_bytes w) ≡ value → is_plain value ≡ true
      → IsSummary ((said ++ held_levels es) ++ level c value ∷ []) (said ++ after es w)
  level_put said es v w h value same plain =
      subst (λ t. IsSummary ((said ++ held_levels es) ++ level c t ∷ []) (said ++ after es w)) same (level_set said es v w h (ap is_plain same ∙ plain))

  -- a member that is held says nothing new
  known : (ours : List ℕ → Bool) (es : List (String Z × Unit {0})) (v : Unit {0}) → lookup test es ≡ Some v → has_member ours (held_members es) || (ours c || false) ≡ has_member ours (held_members es)
  known ours es v h =
      let f = found_entry test es v h in
      let same : (string_bytes f.0) ≡ c = key f.0 f.2 in
      (elim (ours c) as (λ b. ours c ≡ b → has_member ours (held_members es) || (b || false) ≡ has_member ours (held_members es)) [
        | true ↦ λ t. rw (is_member ours test es f.0 v f.1 (ap ours same ∙ t)) refl
        | false ↦ λ t. or_false (has_member ours (held_members es))
      ]) refl

  pub member_known : (said : List Sample) (es : List (String Z × Unit {0})) (v : Unit {0}) → lookup test es ≡ Some v
      → IsSummary ((said ++ held_members es) ++ member c ∷ []) (said ++ held_members es)
  member_known said es v h = record {
    totals = λ ours. let a = total-append ours (said ++ held_members es) (member c ∷ []) in omega (arith, ints);
    counters = λ ours. amount-append ours (said ++ held_members es) (member c ∷ []) ∙ or_false (has_amount ours (said ++ held_members es));
    gauges = λ ours. gauge-append ours (said ++ held_members es) (member c ∷ []);
    members = λ ours. rw (member-append ours (said ++ held_members es) (member c ∷ []), member-append ours said (held_members es))
        (or_assoc ours (has_member ours said) (has_member ours (held_members es)) (ours c || false) ∙ ap (λ b. has_member ours said || b) (known ours es v h));
    timings = λ ours x. let a = times-append ours x (said ++ held_members es) (member c ∷ []) in omega arith;
    values = λ passes. still_said passes (said ++ held_members es) (member c ∷ []);
    rest = others-append (said ++ held_members es) (member c ∷ []) ∙ append-nil (others (said ++ held_members es));
    fewer = let a = length-append (said ++ held_members es) (member c ∷ []) in omega arith;
  }

-- once all that was held is sent, more is sent
pub sent_after : (s0 s1 s2 h x : List Sample) → s1 ++ [] ≡ s0 ++ h → s2 ≡ s1 ++ x → IsSummary ((s0 ++ h) ++ x) (s2 ++ [])
sent_after s0 s1 s2 h x e f =
    same_of _ _ (ap (λ t. t ++ x) (sym e) ∙ ap (λ t. t ++ x) (append-nil s1) ∙ sym f ∙ sym (append-nil s2))
