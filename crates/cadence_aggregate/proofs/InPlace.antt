-- A server knows the same whether a value is written in the place of its entry, or at the front of the table.
use Rattle.std.specs.Prelude.{String, string_bytes, ℤ}
use Rattle.std.proofs.Common.{◌≡◌, ℕ, Bool, true, false, cond, List, [], ◌∷◌, ◌++◌, Option, Some, None, refl, sym, ap, subst, ◌∙◌, append_assoc, append-nil}
use Rattle.std.specs.Map.{lookup, lookup_entry, remove_entry, set_value}
use Rattle.lru.specs.LruCache.{promoted}
use Rattle.cadence_aggregate.specs.Held.{held_by, held_sums, held_timings}
use Rattle.cadence_aggregate.specs.Server.{Sample, amount, timing, IsSummary}
use Rattle.cadence_aggregate.specs.Within.{AreWithin, StayWithin}
use Rattle.cadence_aggregate.proofs.Observed.{same_of, same_trans}
use Rattle.cadence_aggregate.proofs.Rearranged.{HasNoOrder, commute_back, same_before}
use Rattle.cadence_aggregate.proofs.Tables.{rewritten}
use Rattle.cadence_aggregate.proofs.Within.{within_both, within_parts}

held-append : {E : Type 0} (say : E → Sample) (xs ys : List E) → held_by say (xs ++ ys) ≡ held_by say ys ++ held_by say xs
held-append say [] ys = sym (append-nil (held_by say ys))
held-append say (x ∷ xs) ys = ap (λ t. t ++ say x ∷ []) (held-append say xs ys) ∙ append_assoc (held_by say ys) (held_by say xs) (say x ∷ [])

-- the entries before and after the one that is found
split_found : {K V : Type 0} (test : K → Bool) (es : List (K × V)) (v w : V) → lookup test es ≡ Some v
    → (k : K) × (pre : List (K × V)) × (post : List (K × V))
    × ((set_value test es w ≡ pre ++ (k, w) ∷ post) × (remove_entry test es ≡ pre ++ post) × (lookup_entry test es ≡ Some (k, v)))
split_found test [] v w h = cc
split_found test (e ∷ es) v w h = (elim (test e.0) as (λ b. cond b (Some e.1) (lookup test es) ≡ Some v → (k : _) × (pre : List _) × (post : List _)
    × ((cond b ((e.0, w) ∷ es) (e ∷ set_value test es w) ≡ pre ++ (k, w) ∷ post) × (cond b es (e ∷ remove_entry test es) ≡ pre ++ post) × (cond b (Some e) (lookup_entry test es) ≡ Some (k, v)))) [
      | true ↦ λ s. let same : e.1 ≡ v = cc in (e.0, [], es, (refl, refl, ap (λ x. Some (e.0, x)) same))
      | false ↦ λ s. let r = split_found test es v w s in (r.0, e ∷ r.1, r.2, (ap (λ t. e ∷ t) r.3.0, ap (λ t. e ∷ t) r.3.1, r.3.2))
    ]) h

-- the key of an entry, or another one if there is none
abbrev key_or : {K V : Type 0} → K → Option (K × V) → K
key_or k None = k
key_or k (Some e) = e.0

-- what is held, in parts
placed : {K V : Type 0} (say : K × V → Sample) (test : K → Bool) (es : List (K × V)) (v w : V) → lookup test es ≡ Some v
    → (k : K) × (older : List Sample) × (newer : List Sample)
    × ((held_by say (set_value test (promoted test es) w) ≡ older ++ (newer ++ say (k, w) ∷ [])) × (held_by say (set_value test es w) ≡ older ++ (say (k, w) ∷ newer)))
placed say test es v w h =
    let r = split_found test es v w h in
    let q = rewritten test es v w h in
    let key : q.0 ≡ r.0 = ap (key_or q.0) (sym q.1.1 ∙ r.3.2) in
    let older = held_by say r.2 in
    let newer = held_by say r.1 in
    let x = say (r.0, w) ∷ [] in (
      r.0,
      older,
      newer,
      (
        ap (held_by say) q.1.0 ∙ ap (λ k. held_by say ((k, w) ∷ remove_entry test es)) key ∙ ap (λ t. held_by say t ++ x) r.3.1
            ∙ ap (λ t. t ++ x) (held-append say r.1 r.2) ∙ append_assoc older newer x,
        ap (held_by say) r.3.0 ∙ held-append say r.1 ((r.0, w) ∷ r.2) ∙ append_assoc older x newer,
      ),
    )

in_place : {K V : Type 0} (say : K × V → Sample) → ((e : K × V) → HasNoOrder (say e ∷ [])) → (test : K → Bool) (es : List (K × V)) (v w : V) → lookup test es ≡ Some v
    → IsSummary (held_by say (set_value test (promoted test es) w)) (held_by say (set_value test es w))
in_place say loose test es v w h =
    let r = placed say test es v w h in
    let x = say (r.0, w) ∷ [] in
    same_trans _ _ _ (same_of _ _ r.3.0)
    (same_trans _ _ _ (same_before r.1 (r.2 ++ x) (x ++ r.2) (commute_back x r.2 (loose (r.0, w)))) (same_of _ _ (sym r.3.1)))

module _ {Z : Type 0} (test : String Z → Bool) (xs said : List Sample) where
  pub sums_placed : (es : List (String Z × ℤ)) (v w : ℤ) → lookup test es ≡ Some v
      → IsSummary xs (said ++ held_sums (set_value test (promoted test es) w)) → IsSummary xs (said ++ held_sums (set_value test es w))
  sums_placed es v w h same =
      same_trans _ _ _ same (same_before said _ _ (in_place (λ (e : String Z × ℤ). amount (string_bytes e.0) e.1) (λ e. ((λ ours. refl), refl)) test es v w h))

  pub timings_placed : (es : List (String Z × String Z)) (v w : String Z) → lookup test es ≡ Some v
      → IsSummary xs (said ++ held_timings (set_value test (promoted test es) w)) → IsSummary xs (said ++ held_timings (set_value test es w))
  timings_placed es v w h same =
      same_trans _ _ _ same (same_before said _ _ (in_place (λ (e : String Z × String Z). timing (string_bytes e.0) (string_bytes e.1)) (λ e. ((λ ours. refl), refl)) test es v w h))

  -- the lines of values stay within the limit
  pub timings_stay : (limit : ℕ) (es : List (String Z × String Z)) (v w : String Z) → lookup test es ≡ Some v
      → StayWithin limit xs (said ++ held_timings (set_value test (promoted test es) w)) → StayWithin limit xs (said ++ held_timings (set_value test es w))
  timings_stay limit es v w h stay most least within =
      let say : String Z × String Z → Sample = λ e. timing (string_bytes e.0) (string_bytes e.1) in
      let r = placed say test es v w h in
      let x = say (r.0, w) ∷ [] in
      let all = within_parts most said _ (stay most least within) in
      let parts = within_parts most r.1 (r.2 ++ x) (subst (AreWithin most) r.3.0 all.1) in
      let ends = within_parts most r.2 x parts.1 in
      within_both most said _ all.0
      (subst (AreWithin most) (sym r.3.1) (within_both most r.1 (x ++ r.2) parts.0 (within_both most x r.2 ends.1 ends.0)))
