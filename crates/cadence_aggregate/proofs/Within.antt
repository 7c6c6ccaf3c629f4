-- Lines of values that are within a limit, in two lists that are joined, and in tables.
use Rattle.std.specs.Prelude.{String, string_bytes, ℤ, ◌≤◌, Result, Ok, Err, OnOk, OnErr}
use Rattle.cadence_aggregate.specs.Aggregate.{said_by}
use Rattle.cadence_aggregate.specs.Lines.{samples_of}
use Rattle.cadence_aggregate.specs.declared.line.Line.{Line}
use Rattle.cadence_aggregate.specs.declared.runs.Step.TheVariants.{Add}
use Rattle.std.proofs.Common.{◌≡◌, ℕ, ◌+◌, Bool, true, false, cond, List, [], ◌∷◌, ◌++◌, length, Some, sym, subst, arith}
use Rattle.std.specs.Map.{lookup, lookup_entry, remove_entry, set_value}
use Rattle.lru.specs.LruCache.{promoted}
use Rattle.cadence_aggregate.specs.Server.{Sample, amount, level, member, timing, unclear, other}
use Rattle.cadence_aggregate.specs.Held.{held_sums, held_levels, held_members, held_timings}
use Rattle.cadence_aggregate.specs.Within.{AreWithin, StayWithin, if_ok}
use Rattle.cadence_aggregate.proofs.Tables.{rewritten}

module _ (most : ℕ) where
  pub within_both : (xs ys : List Sample) → AreWithin most xs → AreWithin most ys → AreWithin most (xs ++ ys)
  within_both [] ys a b = b
  within_both (amount c n ∷ xs) ys a b = within_both xs ys a b
  within_both (level c v ∷ xs) ys a b = within_both xs ys a b
  within_both (member c ∷ xs) ys a b = within_both xs ys a b
  within_both (timing c t ∷ xs) ys a b = (a.0, within_both xs ys a.1 b)
  within_both (unclear l ∷ xs) ys a b = within_both xs ys a b
  within_both (other l ∷ xs) ys a b = within_both xs ys a b

  pub within_parts : (xs ys : List Sample) → AreWithin most (xs ++ ys) → AreWithin most xs × AreWithin most ys
  within_parts [] ys a = (tt, a)
  within_parts (amount c n ∷ xs) ys a = within_parts xs ys a
  within_parts (level c v ∷ xs) ys a = within_parts xs ys a
  within_parts (member c ∷ xs) ys a = within_parts xs ys a
  within_parts (timing c t ∷ xs) ys a = let h = within_parts xs ys a.1 in ((a.0, h.0), h.1)
  within_parts (unclear l ∷ xs) ys a = within_parts xs ys a
  within_parts (other l ∷ xs) ys a = within_parts xs ys a

  module _ {Z : Type 0} where
    pub sums_within : (es : List (String Z × ℤ)) → AreWithin most (held_sums es)
    sums_within [] = tt
    sums_within (e ∷ es) = within_both (held_sums es) (amount (string_bytes e.0) e.1 ∷ []) (sums_within es) tt

    pub levels_within : (es : List (String Z × String Z)) → AreWithin most (held_levels es)
    levels_within [] = tt
    levels_within (e ∷ es) = within_both (held_levels es) (level (string_bytes e.0) (string_bytes e.1) ∷ []) (levels_within es) tt

    pub members_within : (es : List (String Z × Unit {0})) → AreWithin most (held_members es)
    members_within [] = tt
    members_within (e ∷ es) = within_both (held_members es) (member (string_bytes e.0) ∷ []) (members_within es) tt

    -- the entries without one, and the one
    pub timings_apart : (test : String Z → Bool) (es : List (String Z × String Z)) (k v : String Z) → lookup_entry test es ≡ Some (k, v)
        → AreWithin most (held_timings es) → AreWithin most (held_timings (remove_entry test es)) × (length (string_bytes k) + length (string_bytes v) + 1 ≤ most)
    timings_apart test [] k v h a = cc
    timings_apart test (e ∷ es) k v h a =
        let parts = within_parts (held_timings es) (timing (string_bytes e.0) (string_bytes e.1) ∷ []) a in
        (elim (test e.0) as (λ b. cond b (Some e) (lookup_entry test es) ≡ Some (k, v)
        → AreWithin most (held_timings (cond b es (e ∷ remove_entry test es))) × (length (string_bytes k) + length (string_bytes v) + 1 ≤ most)) [
          | true ↦ λ s. let same : e ≡ (k, v) = cc in
              (parts.0, subst (λ (f : String Z × String Z). length (string_bytes f.0) + length (string_bytes f.1) + 1 ≤ most) same parts.1.0)
          | false ↦ λ s.
              let rest = timings_apart test es k v s parts.0 in
              (within_both (held_timings (remove_entry test es)) (timing (string_bytes e.0) (string_bytes e.1) ∷ []) rest.0 (parts.1.0, tt), rest.1)
        ]) h

-- what was sent stays within, if what was sent and is held is the same list, and what is held sends no values
pub sent_within : (most : ℕ) (s s' h h' : List Sample) → s' ++ h' ≡ s ++ h → AreWithin most h → AreWithin most s → AreWithin most s'
sent_within most s s' h h' same held sent =
    (within_parts most s' h' (subst (AreWithin most) (sym same) (within_both most s h sent held))).0

-- a list that is the same stays within
pub stay_same : (limit : ℕ) (xs ys : List Sample) → ys ≡ xs → StayWithin limit xs ys
stay_same limit xs ys same most least within = subst (AreWithin most) (sym same) within

-- a fact of what was sent after a reply, which added these lines if it was Ok, and nothing otherwise
pub either_reply : {T F : Type 0} (r : Result T F) (P : List Sample → Type 0) (before more after : List Sample)
    → OnOk r (after ≡ before ++ more) → OnErr r (after ≡ before) → P before → P (before ++ more) → P after
either_reply (Ok x) P before more after ok err kept added = subst P (sym ok) added
either_reply (Err e) P before more after ok err kept added = subst P (sym err) kept

-- what a line said that was handed on at once, if the sink took it
pub passed_within : {T F : Type 0} (r : Result T F) (limit : ℕ) (s s' h x : List Sample)
    → OnOk r (s' ≡ s ++ x) → OnErr r (s' ≡ s) → StayWithin limit ((s ++ h) ++ if_ok r x) (s' ++ h)
passed_within (Ok y) limit s s' h x ok err most least within =
    let all = within_parts most (s ++ h) x within in
    let past = within_parts most s h all.0 in
    within_both most s' h (subst (AreWithin most) (sym ok) (within_both most s x past.0 all.1)) past.1
passed_within (Err e) limit s s' h x ok err most least within =
    let all = within_parts most (s ++ h) [] within in
    let past = within_parts most s h all.0 in
    within_both most s' h (subst (AreWithin most) (sym err) past.0) past.1

module _ {Z : Type 0} (limit : ℕ) (s s' : List Sample) (a a' : List (String Z × ℤ)) (b b' : List (String Z × String Z)) (c c' : List (String Z × Unit {0})) where
  -- the values stay as they were, if another table changed
  pub others_within : (d : List (String Z × String Z)) (x : List Sample) → ((most : ℕ) → AreWithin most s → AreWithin most s')
      → StayWithin limit ((s ++ (held_sums a ++ (held_levels b ++ (held_members c ++ held_timings d)))) ++ x)
      (s' ++ (held_sums a' ++ (held_levels b' ++ (held_members c' ++ held_timings d))))
  others_within d x sent most least within =
      let all = within_parts most (s ++ (held_sums a ++ (held_levels b ++ (held_members c ++ held_timings d)))) x within in
      let past = within_parts most s (held_sums a ++ (held_levels b ++ (held_members c ++ held_timings d))) all.0 in
      let one = within_parts most (held_sums a) (held_levels b ++ (held_members c ++ held_timings d)) past.1 in
      let two = within_parts most (held_levels b) (held_members c ++ held_timings d) one.1 in
      let three = within_parts most (held_members c) (held_timings d) two.1 in
      within_both most s' _ (sent most past.0)
      (within_both most (held_sums a') _ (sums_within most a') (within_both most (held_levels b') _ (levels_within most b')
      (within_both most (held_members c') (held_timings d) (members_within most c') three.1)))

-- what is so of the table of values is so of all tables
pub timings_only : {Z : Type 0} (limit : ℕ) (s s' : List Sample) (a : List (String Z × ℤ)) (b : List (String Z × String Z)) (c : List (String Z × Unit {0})) (d d' : List (String Z × String Z)) (x : List Sample)
    → StayWithin limit ((s ++ held_timings d) ++ x) (s' ++ held_timings d')
    → StayWithin limit ((s ++ (held_sums a ++ (held_levels b ++ (held_members c ++ held_timings d)))) ++ x)
    (s' ++ (held_sums a ++ (held_levels b ++ (held_members c ++ held_timings d'))))
timings_only limit s s' a b c d d' x stay most least within =
    let all = within_parts most (s ++ (held_sums a ++ (held_levels b ++ (held_members c ++ held_timings d)))) x within in
    let past = within_parts most s (held_sums a ++ (held_levels b ++ (held_members c ++ held_timings d))) all.0 in
    let one = within_parts most (held_sums a) (held_levels b ++ (held_members c ++ held_timings d)) past.1 in
    let two = within_parts most (held_levels b) (held_members c ++ held_timings d) one.1 in
    let three = within_parts most (held_members c) (held_timings d) two.1 in
    let now = within_parts most s' (held_timings d') (stay most least (within_both most (s ++ held_timings d) x (within_both most s (held_timings d) past.0 three.1) all.1)) in
    within_both most s' _ now.0
    (within_both most (held_sums a) _ one.0 (within_both most (held_levels b) _ two.0
    (within_both most (held_members c) (held_timings d') three.0 now.1)))

-- what a step says is within, if what its line says is
pub line_within : (limit : ℕ) (s now : List Sample) (line : Line) (r : Result (Unit {0}) _)
    → StayWithin limit (s ++ if_ok r (samples_of line)) now → StayWithin limit (s ++ said_by (Add line) r) now
line_within limit s now line (Ok x) stay = stay
line_within limit s now line (Err e) stay = stay

pub stay_more : (limit : ℕ) (xs ys zs : List Sample) → StayWithin limit xs ys → StayWithin limit (xs ++ zs) (ys ++ zs)
stay_more limit xs ys zs stay most least within =
    let parts = within_parts most xs zs within in
    within_both most ys zs (stay most least parts.0) parts.1

pub stay_further : (limit : ℕ) (xs ys zs : List Sample) → StayWithin limit xs ys → StayWithin limit ys zs → StayWithin limit xs zs
stay_further limit xs ys zs one two most least within = two most least (one most least within)

module _ {Z : Type 0} (test : String Z → Bool) (c : List ℕ) (key : (k : String Z) → test k ≡ true → (string_bytes k) ≡ c)
    (es : List (String Z × String Z)) (v w : String Z) (h : lookup test es ≡ Some v) where
  -- an entry was written in place, and the old one was within the same limit
  pub rewritten_within : (most : ℕ) → (length c + length (string_bytes v) + 1 ≤ most → length c + length (string_bytes w) + 1 ≤ most)
      → AreWithin most (held_timings es) → AreWithin most (held_timings (set_value test (promoted test es) w))
  rewritten_within most less within =
      let r = rewritten test es v w h in
      let same : (string_bytes r.0) ≡ c = key r.0 r.1.2 in
      let apart = timings_apart most test es r.0 v r.1.1 within in
      let size : length c + length (string_bytes v) + 1 ≤ most = subst (λ t. length t + length (string_bytes v) + 1 ≤ most) same apart.1 in
      let now : length (string_bytes r.0) + length (string_bytes w) + 1 ≤ most = subst (λ t. length t + length (string_bytes w) + 1 ≤ most) (sym same) (less size) in
      subst (λ t. AreWithin most (held_timings t)) (sym r.1.0) (within_both most (held_timings (remove_entry test es)) (timing (string_bytes r.0) (string_bytes w) ∷ []) apart.0 (now, tt))

  -- the old values, as they were held
  pub held_within : (most : ℕ) → AreWithin most (held_timings es) → length c + length (string_bytes v) + 1 ≤ most
  held_within most within =
      let r = rewritten test es v w h in
      let apart = timings_apart most test es r.0 v r.1.1 within in
      subst (λ t. length t + length (string_bytes v) + 1 ≤ most) (key r.0 r.1.2) apart.1

  module _ (limit : ℕ) (s : List Sample) where
    -- the values stay as they were
    pub unwritten_within : {T F : Type 0} (r : Result T F) (x : List Sample) → string_bytes w ≡ string_bytes v
        → StayWithin limit ((s ++ held_timings es) ++ if_ok r x) (s ++ held_timings (set_value test (promoted test es) w))
    unwritten_within r x same most least within =
        let all = within_parts most (s ++ held_timings es) (if_ok r x) within in
        let past = within_parts most s (held_timings es) all.0 in
        within_both most s _ past.0 (rewritten_within most (subst (λ t. length c + length (string_bytes v) + 1 ≤ most → length c + length t + 1 ≤ most) (sym same) (λ z. z)) past.1)

    -- values were appended, within the limit
    pub appended_within : (x : List Sample) → length c + length (string_bytes w) + 1 ≤ limit
        → StayWithin limit ((s ++ held_timings es) ++ x) (s ++ held_timings (set_value test (promoted test es) w))
    appended_within x fits most least within =
        let all = within_parts most (s ++ held_timings es) x within in
        let past = within_parts most s (held_timings es) all.0 in
        within_both most s _ past.0 (rewritten_within most (λ z. omega (arith, least, fits)) past.1)

    -- the values were sent, and new ones took their place
    pub restarted_within : (more : List ℕ) → string_bytes w ≡ more
        → StayWithin limit ((s ++ held_timings es) ++ timing c more ∷ []) ((s ++ timing c (string_bytes v) ∷ []) ++ held_timings (set_value test (promoted test es) w))
    restarted_within more fresh most least within =
        let all = within_parts most (s ++ held_timings es) (timing c more ∷ []) within in
        let past = within_parts most s (held_timings es) all.0 in
        let size : length c + length (string_bytes w) + 1 ≤ most = subst (λ t. length c + length t + 1 ≤ most) (sym fresh) all.1.0 in
        within_both most (s ++ timing c (string_bytes v) ∷ []) _
        (within_both most s (timing c (string_bytes v) ∷ []) past.0 (held_within most past.1, tt))
        (rewritten_within most (λ z. size) past.1)
