-- The cut of the lines kept so far in a run, and how it grows by a line, a flush or a refusal.
use Rattle.std.proofs.Common.{◌≡◌, ◌≢◌, ℕ, ◌+◌, ◌<◌, ◌≤◌, List, [], ◌∷◌, ◌++◌, length, get_or, refl, sym, ap, ◌∙◌, inl, inr, arith, ⊎_elim}
use Rattle.std.proofs.Common.{subst, map, sum, ltb}
use Rattle.std.specs.Prelude.{Contains}
use Rattle.std.specs.List.{AllByRecursion}
use Rattle.std.proofs.lemmas.List.{append-nil, append_assoc, length-append, map-append, same_from_push, length-map}
use Rattle.std.proofs.lemmas.List.Concat.{flat_map-append}
use Rattle.std.proofs.lemmas.List.Sums.{sum_by-append}
use Rattle.std.proofs.lemmas.List.Elements.{Contains-push_cases, Contains-append_left, Contains-push}
use Rattle.std.proofs.lemmas.Bool.{cases_lt, le-ltb, lt-ltb, cond-true, cond-false}
use Rattle.cadence_schedule.specs.Plan.{FitsPacket}
use Rattle.cadence_flow.specs.Frame.{Format, size_of, frame, stream, held_packet}
use Rattle.cadence_value.proofs.lists.SplitTexts.{each_append}
use Rattle.cadence_schedule.proofs.plans.PlanGroups.{HasNoRoomForNext, sum-cons, not_at}
use Rattle.cadence_schedule.proofs.packets.ListEnds.{ends, split_end, neighbours_end, joined}

-- No group could have had one line more, except where it ends at a mark or a refusal.
abbrev pub LateLines : Format → List ℕ → List ℕ → List (List (List ℕ)) → Type 0
LateLines format marks refusals groups =
    (before after : List (List (List ℕ))) (group next : List (List ℕ)) → groups ≡ before ++ (group ∷ next ∷ after)
    → ¬ Contains marks (length (joined (before ++ group ∷ []))) → ¬ Contains refusals (length (joined (before ++ group ∷ [])))
    → HasNoRoomForNext format.capacity (map (size_of format) group) (map (size_of format) next)

-- The groups are a cut of the lines, the packets and then the held text are the frames of the groups, and no group
-- could have ended later.
pub record IsCutSoFar (format : Format) (marks refusals : List ℕ) (lines : List (List ℕ)) (groups : List (List (List ℕ)))
    (packets : List (List ℕ)) (held : List ℕ) : Type 0 where
  pub all : joined groups ≡ lines
  pub filled : AllByRecursion (λ group. 0 < length group) groups
  pub fit : AllByRecursion (λ group. FitsPacket format.capacity (map (size_of format) group)) groups
  pub marked : (p : ℕ) → Contains marks p
      → (front : List (List (List ℕ))) × (back : List (List (List ℕ))) × (groups ≡ front ++ back) × (length (joined front) ≡ p)
  pub late : LateLines format marks refusals groups
  pub into : packets ++ held_packet held ≡ map (stream format) groups
  pub flushed : Contains marks (length lines) → held ≡ []
  pub oversize : (before : List (List ℕ)) (line : List ℕ) → lines ≡ before ++ line ∷ [] → format.capacity < size_of format line → held ≡ []
  pub holds : (before : List (List ℕ)) (line : List ℕ) → lines ≡ before ++ line ∷ [] → size_of format line ≤ format.capacity
      → ¬ Contains marks (length lines) → ¬ Contains refusals (length lines) → held ≢ []

sum-append : (xs ys : List ℕ) → sum (xs ++ ys) ≡ sum xs + sum ys
sum-append xs ys = sum_by-append (λ x. x) xs ys

each_front : {X : Type 0} (P : X → Type 0) (xs ys : List X) → AllByRecursion P (xs ++ ys) → AllByRecursion P xs
each_front P [] ys h = tt
each_front P (x ∷ xs) ys (h, hs) = (h, each_front P xs ys hs)

each_last : {X : Type 0} (P : X → Type 0) (xs : List X) (y : X) → AllByRecursion P (xs ++ y ∷ []) → P y
each_last P [] y h = h.0
each_last P (x ∷ xs) y (h, hs) = each_last P xs y hs

pub joined-push : {X : Type 0} (groups : List (List X)) (group : List X) → joined (groups ++ group ∷ []) ≡ joined groups ++ group
joined-push groups group = flat_map-append (λ g. g) groups (group ∷ []) ∙ ap (λ g. joined groups ++ g) (append-nil group)

pub frame_within : (format : Format) (line : List ℕ) → size_of format line ≤ format.capacity → frame format line ≡ line ++ format.ending
frame_within format line h =
    cond-false (ltb format.capacity (size_of format line)) line (line ++ format.ending) (le-ltb format.capacity (size_of format line) h)

pub frame_past : (format : Format) (line : List ℕ) → format.capacity < size_of format line → frame format line ≡ line
frame_past format line h =
    cond-true (ltb format.capacity (size_of format line)) line (line ++ format.ending) (lt-ltb format.capacity (size_of format line) h)

-- The frames of a group within the capacity are as long as its sizes say.
length-stream : (format : Format) (group : List (List ℕ)) → sum (map (size_of format) group) ≤ format.capacity
    → length (stream format group) ≡ sum (map (size_of format) group)
length-stream format [] h = refl
length-stream format (line ∷ group) h =
    let parts : sum (map (size_of format) (line ∷ group)) ≡ size_of format line + sum (map (size_of format) group) =
    sum-cons (size_of format line) (map (size_of format) group) in
    let first : length (frame format line) ≡ size_of format line = ap (λ t. length t) (frame_within format line (omega arith))
    ∙ length-append line format.ending in
    let rest : length (stream format group) ≡ sum (map (size_of format) group) = length-stream format group (omega arith) in
    omega (arith, length-append (frame format line) (stream format group))

-- A group that fits a packet, and whose last line isn't oversize, is within the capacity.
within_last : (format : Format) (front : List (List ℕ)) (line : List ℕ)
    → FitsPacket format.capacity (map (size_of format) (front ++ line ∷ [])) → size_of format line ≤ format.capacity
    → sum (map (size_of format) (front ++ line ∷ [])) ≤ format.capacity
within_last format [] line fits small = omega (arith, sum-cons (size_of format line) [])
within_last format (x ∷ front) line (inl one) small =
    absurd (omega (arith, length-map (front ++ line ∷ []) (size_of format), length-append front (line ∷ [])))
within_last format (x ∷ front) line (inr within) small = within

-- The last of some sizes is at most their sum.
last_within : (format : Format) (front : List (List ℕ)) (line : List ℕ) → size_of format line ≤ sum (map (size_of format) (front ++ line ∷ []))
last_within format [] line = omega (arith, sum-cons (size_of format line) [])
last_within format (x ∷ front) line =
    omega (arith, sum-cons (size_of format x) (map (size_of format) (front ++ line ∷ [])), last_within format front line)

sum-sizes-push : (format : Format) (group : List (List ℕ)) (line : List ℕ)
    → sum (map (size_of format) (group ++ line ∷ [])) ≡ sum (map (size_of format) group) + size_of format line
sum-sizes-push format group line = ap sum (map-append (size_of format) group (line ∷ []))
    ∙ omega (arith, sum-append (map (size_of format) group) (size_of format line ∷ []), sum-cons (size_of format line) [])

stream-push : (format : Format) (group : List (List ℕ)) (line : List ℕ)
    → stream format (group ++ line ∷ []) ≡ stream format group ++ frame format line
stream-push format group line = flat_map-append (frame format) group (line ∷ []) ∙ ap (λ t. stream format group ++ t) (append-nil (frame format line))

first_same : (format : Format) (group : List (List ℕ)) (line : List ℕ) → 0 < length group
    → get_or (map (size_of format) (group ++ line ∷ [])) 0 0 ≡ get_or (map (size_of format) group) 0 0
first_same format [] line some = absurd (omega arith)
first_same format (x ∷ group) line some = refl

pub nil_front : (s t : List ℕ) → s ++ t ≡ [] → s ≡ []
nil_front [] t e = refl
nil_front (x ∷ s) t e = absurd cc

pub held_packet_is : (held : List ℕ) → held ≢ [] → held_packet held ≡ held ∷ []
held_packet_is [] some = absurd (some refl)
held_packet_is (byte ∷ rest) some = refl

none_in : {X : Type 0} (xs : List X) → xs ≡ [] → 0 < length xs → ⊥
none_in xs none some = absurd (omega (arith, ap (λ l. length l) none))

module _ (format : Format) (marks refusals : List ℕ) (lines : List (List ℕ)) (groups : List (List (List ℕ))) (packets : List (List ℕ))
    (held : List ℕ) (cut : IsCutSoFar format marks refusals lines groups packets held) where
  -- The last group ends in a line, which is the last of all.
  last_line : (init : List (List (List ℕ))) (group : List (List ℕ)) → groups ≡ init ++ group ∷ []
      → (front : List (List ℕ)) × (line : List ℕ) × (group ≡ front ++ line ∷ []) × (lines ≡ (joined init ++ front) ++ line ∷ [])
  last_line init group e =
      elim (ends group) [
        | inl none ↦ absurd (none_in group none (each_last (λ g. 0 < length g) init group
            (subst (λ gs. AllByRecursion (λ g. 0 < length g) gs) e cut.filled)))
        | inr some ↦
            let (front, line, f) = some in (
              front,
              line,
              f,
              sym cut.all ∙ ap (λ gs. joined gs) e ∙ joined-push init group ∙ ap (λ g. joined init ++ g) f
                  ∙ sym (append_assoc (joined init) front (line ∷ [])),
            )
      ]

  -- A last group that is within the capacity is held, if no mark and no refusal follows it.
  pub last_held : (init : List (List (List ℕ))) (group : List (List ℕ)) → groups ≡ init ++ group ∷ [] → ¬ Contains marks (length lines)
      → ¬ Contains refusals (length lines) → sum (map (size_of format) group) ≤ format.capacity → held ≢ []
  last_held init group e unmarked unrefused within =
      let (front, line, f, lines_are) = last_line init group e in
      cut.holds (joined init ++ front) line lines_are (omega (
        arith,
        last_within format front line,
        ap (λ g. sum (map (size_of format) g))
            f,
      )) unmarked unrefused

  held_within : held ≢ [] → (init : List (List (List ℕ))) (group : List (List ℕ)) → groups ≡ init ++ group ∷ []
      → sum (map (size_of format) group) ≤ format.capacity
  held_within some_held init group e =
      let (front, line, f, lines_are) = last_line init group e in
      let fits : FitsPacket format.capacity (map (size_of format) group) =
      each_last (λ g. FitsPacket format.capacity (map (size_of format) g)) init group
      (subst (λ gs. AllByRecursion (λ g. FitsPacket format.capacity (map (size_of format) g)) gs) e cut.fit) in
      ⊎_elim
      (λ (past : format.capacity < size_of format line). absurd (some_held (cut.oversize (joined init ++ front) line lines_are past)))
      (λ (small : size_of format line ≤ format.capacity). let goal : sum (map (size_of format) group) ≤ format.capacity = omega (
        arith,
        within_last format front line (subst (λ g. FitsPacket format.capacity (map (size_of format) g)) f fits) small,
        ap
            (λ g. sum (map (size_of format) g)) f,
      ) in goal)
      (cases_lt format.capacity (size_of format line))

  -- If text is held, it is the frames of the last group, whose sizes are within the capacity.
  pub held_last : held ≢ []
      → (init : List (List (List ℕ))) × (group : List (List ℕ)) × (groups ≡ init ++ group ∷ []) × (packets ≡ map (stream format) init)
      × (held ≡ stream format group) × (sum (map (size_of format) group) ≤ format.capacity)
      × (length held ≡ sum (map (size_of format) group))
  held_last some_held =
      let shown : packets ++ held ∷ [] ≡ map (stream format) groups = ap (λ p. packets ++ p) (sym (held_packet_is held some_held)) ∙ cut.into in
      elim (ends groups) [
        | inl none ↦ absurd (omega (
          arith,
          ap (λ p. length p) shown,
          length-append packets (held ∷ []),
          ap
              (λ gs. length (map (stream format) gs)) none,
        ))
        | inr some ↦
            let (init, group, e) = some in
            let split : packets ++ held ∷ [] ≡ map (stream format) init ++ stream format group ∷ [] =
            shown ∙ ap (λ gs. map (stream format) gs) e ∙ map-append (stream format) init (group ∷ []) in
            let (fronts, texts) = same_from_push packets (map (stream format) init) held (stream format group) split in
            let within : sum (map (size_of format) group) ≤ format.capacity = held_within some_held init group e in
            (init, group, e, fronts, texts, within, ap (λ t. length t) texts ∙ length-stream format group within)
      ]

  -- No mark is past the end of the lines.
  mark_within : (p : ℕ) → Contains marks p → p ≤ length lines
  mark_within p has =
      let (front, back, e, at) = cut.marked p has in
      omega (
        arith,
        at,
        ap (λ gs. length (joined gs)) e,
        ap (λ l. length l) (flat_map-append (λ g. g) front back),
        length-append
            (joined front) (joined back),
        ap (λ l. length l) cut.all,
      )

  new_late : (line : List ℕ)
      → ((init : List (List (List ℕ))) (group : List (List ℕ)) → groups ≡ init ++ group ∷ [] → ¬ Contains marks (length lines) → ¬ Contains
      refusals (length lines) → HasNoRoomForNext format.capacity (map (size_of format) group) (size_of format line ∷ []))
      → LateLines format marks refusals (groups ++ (line ∷ []) ∷ [])
  new_late line border before after group next f unmarked unrefused =
      elim (neighbours_end groups (line ∷ []) before after group next f) [
        | inl at_end ↦
            let (next_is, groups_are) = at_end in
            let place : length (joined (before ++ group ∷ [])) ≡ length lines = ap (λ gs. length (joined gs)) (sym groups_are)
            ∙ ap (λ l. length l) cut.all in
            subst (λ g. HasNoRoomForNext format.capacity (map (size_of format) group) (map (size_of format) g)) (sym next_is)
            (border before group groups_are (not_at marks (length (joined (before ++ group ∷ []))) (length lines) place unmarked)
            (not_at refusals (length (joined (before ++ group ∷ []))) (length lines) place unrefused))
        | inr earlier ↦ let (rest, groups_are) = earlier in cut.late before rest group next groups_are unmarked unrefused
      ]

  -- The cut grows by a group with one line, if a line begins a packet of its own.
  pub new_group : (line : List ℕ) (new_packets : List (List ℕ)) (new_held : List ℕ)
      → new_packets ++ held_packet new_held ≡ (packets ++ held_packet held) ++ frame format line ∷ []
      → (format.capacity < size_of format line → new_held ≡ []) → (size_of format line ≤ format.capacity → new_held ≢ [])
      → ((init : List (List (List ℕ))) (group : List (List ℕ)) → groups ≡ init ++ group ∷ [] → ¬ Contains marks (length lines) → ¬ Contains
      refusals (length lines) → HasNoRoomForNext format.capacity (map (size_of format) group) (size_of format line ∷ []))
      → IsCutSoFar format marks refusals (lines ++ line ∷ []) (groups ++ (line ∷ []) ∷ []) new_packets new_held
  new_group line new_packets new_held e large small border = record {
    all = joined-push groups (line ∷ []) ∙ ap (λ l. l ++ line ∷ []) cut.all;
    filled = each_append (λ g. 0 < length g) groups ((line ∷ []) ∷ []) cut.filled (omega arith, tt);
    fit = each_append (λ g. FitsPacket format.capacity (map (size_of format) g)) groups ((line ∷ []) ∷ []) cut.fit (inl refl, tt);
    marked = λ p has. let (front, back, f, at) = cut.marked p has in (
      front,
      back ++ (line ∷ []) ∷ [],
      ap (λ gs. gs ++ (line ∷ []) ∷ []) f
          ∙ append_assoc front back ((line ∷ []) ∷ []),
      at,
    );
    late = λ before after group next f unmarked unrefused. new_late line border before after group next f unmarked unrefused;
    into = e ∙ ap (λ p. p ++ frame format line ∷ []) cut.into
        ∙ ap (λ t. map (stream format) groups ++ t ∷ []) (sym (append-nil (frame format line)))
        ∙ sym (map-append (stream format) groups ((line ∷ []) ∷ []));
    flushed = λ has. absurd (omega (arith, mark_within (length (lines ++ line ∷ [])) has, length-append lines (line ∷ [])));
    oversize =
        λ before last f past. let (fronts, same) = same_from_push lines before line last f in large (omega (arith, ap (λ l. size_of format l) same));
    holds =
        λ before last f within unmarked unrefused. let (fronts, same) =
        same_from_push lines before line last f in small (omega (arith, ap (λ l. size_of format l) same));
  }

  joined_marks : (line : List ℕ) → held ≢ [] → (init : List (List (List ℕ))) (group : List (List ℕ)) → groups ≡ init ++ group ∷ [] → (p : ℕ)
      → Contains marks p
      → (front : List (List (List ℕ))) × (back : List (List (List ℕ))) × (init ++ (group ++ line ∷ []) ∷ [] ≡ front ++ back)
      × (length (joined front) ≡ p)
  joined_marks line some_held init group e p has =
      let (front, back, f, at) = cut.marked p has in
      elim (split_end front back init group (sym f ∙ e)) [
        | inl at_end ↦ absurd (
            let place : p ≡ length lines = sym at ∙ ap (λ gs. length (joined gs)) (at_end.1 ∙ sym e) ∙ ap (λ l. length l) cut.all in
            some_held (cut.flushed (subst (λ q. Contains marks q) place has)))
        | inr earlier ↦
            let (rest, back_is, init_is) = earlier in (
              front,
              rest ++ (group ++ line ∷ []) ∷ [],
              ap (λ gs. gs ++ (group ++ line ∷ []) ∷ []) init_is
                  ∙ append_assoc front rest ((group ++ line ∷ []) ∷ []),
              at,
            )
      ]

  joined_late : (line : List ℕ) → held ≢ [] → (init : List (List (List ℕ))) (group : List (List ℕ)) → groups ≡ init ++ group ∷ []
      → LateLines format marks refusals (init ++ (group ++ line ∷ []) ∷ [])
  joined_late line some_held init group e before after g next f unmarked unrefused =
      elim (neighbours_end init (group ++ line ∷ []) before after g next f) [
        | inl at_end ↦
            let (next_is, init_is) = at_end in
            let were : groups ≡ before ++ (g ∷ group ∷ []) = e ∙ ap (λ gs. gs ++ group ∷ []) init_is ∙ append_assoc before (g ∷ []) (group ∷ []) in
            let some : 0 < length group =
            each_last (λ h. 0 < length h) init group (subst (λ gs. AllByRecursion (λ h. 0 < length h) gs) e cut.filled) in
            let old = cut.late before [] g group were unmarked unrefused in
            λ within next_within.
            let sizes : sum (map (size_of format) next) ≡ sum (map (size_of format) group) + size_of format line =
            ap (λ h. sum (map (size_of format) h)) next_is
            ∙ sum-sizes-push format group line in
            let first : get_or (map (size_of format) next) 0 0 ≡ get_or (map (size_of format) group) 0 0 =
            ap (λ h. get_or (map (size_of format) h) 0 0) next_is
            ∙ first_same format group line some in
            let passes : format.capacity < sum (map (size_of format) g) + get_or (map (size_of format) group) 0 0 = old within (omega arith) in
            let goal : format.capacity < sum (map (size_of format) g) + get_or (map (size_of format) next) 0 0 = omega arith in goal
        | inr earlier ↦
            let (rest, init_is) = earlier in
            cut.late before (rest ++ group ∷ []) g next (e ∙ ap (λ gs. gs ++ group ∷ []) init_is
            ∙ append_assoc before (g ∷ next ∷ rest) (group ∷ [])) unmarked unrefused
      ]

  -- The last group grows by a line that joins the held text.
  pub joins_group : (line : List ℕ) → held ≢ [] → length held + size_of format line ≤ format.capacity
      → (init : List (List (List ℕ))) × (group : List (List ℕ)) × (groups ≡ init ++ group ∷ [])
      × IsCutSoFar format marks refusals (lines ++ line ∷ []) (init ++ (group ++ line ∷ []) ∷ []) packets (held ++ frame format line)
  joins_group line some_held fits =
      let (init, group, e, fronts, texts, within, held_length) = held_last some_held in
      let bigger = group ++ line ∷ [] in
      let filled : AllByRecursion (λ g. 0 < length g) (init ++ group ∷ []) = subst (λ gs. AllByRecursion (λ g. 0 < length g) gs) e cut.filled in
      let fit : AllByRecursion (λ g. FitsPacket format.capacity (map (size_of format) g)) (init ++ group ∷ []) =
      subst (λ gs. AllByRecursion (λ g. FitsPacket format.capacity (map (size_of format) g)) gs) e cut.fit in (
        init,
        group,
        e,
        record {
          all = joined-push init (group ++ line ∷ []) ∙ sym (append_assoc (joined init) group (line ∷ []))
              ∙ ap (λ l. l ++ line ∷ []) (sym (joined-push init group) ∙ ap (λ gs. joined gs) (sym e) ∙ cut.all);
          filled =
              each_append (λ g. 0 < length g) init ((group ++ line ∷ []) ∷ []) (each_front (λ g. 0 < length g) init (group ∷ []) filled)
              (omega (arith, length-append group (line ∷ [])), tt);
          fit =
              each_append (λ g. FitsPacket format.capacity (map (size_of format) g)) init ((group ++ line ∷ []) ∷ [])
              (each_front (λ g. FitsPacket format.capacity (map (size_of format) g)) init (group ∷ []) fit)
              (inr (omega (arith, sum-sizes-push format group line)), tt);
          marked = λ p has. joined_marks line some_held init group e p has;
          late = λ before after g next f unmarked unrefused. joined_late line some_held init group e before after g next f unmarked unrefused;
          into = ap (λ p. packets ++ p) (held_packet_is (held ++ frame format line) (λ none. some_held (nil_front held (frame format line) none)))
              ∙ (λ i. fronts i ++ (ap (λ t. t ++ frame format line) texts ∙ sym (stream-push format group line)) i ∷ [])
              ∙ sym (map-append (stream format) init ((group ++ line ∷ []) ∷ []));
          flushed = λ has. absurd (omega (arith, mark_within (length (lines ++ line ∷ [])) has, length-append lines (line ∷ [])));
          oversize =
              λ before last f past. let (fronts', same) =
              same_from_push lines before line last f in absurd (omega (arith, ap (λ l. size_of format l) same));
          holds = λ before last f small unmarked unrefused none. absurd (some_held (nil_front held (frame format line) none));
        },
      )

  -- The groups stay a cut after a flush, which sends the held text as a packet and adds a mark.
  pub marks_flush : (new_packets : List (List ℕ)) → new_packets ≡ packets ++ held_packet held
      → IsCutSoFar format (marks ++ length lines ∷ []) refusals lines groups new_packets []
  marks_flush new_packets e = record {
    all = cut.all;
    filled = cut.filled;
    fit = cut.fit;
    marked = λ p has. ⊎_elim
        (λ (old : Contains marks p). cut.marked p old)
        (λ (here : length lines ≡ p). (groups, [], sym (append-nil groups), ap (λ l. length l) cut.all ∙ here))
        (Contains-push_cases marks (length lines) p has);
    late =
        λ before after group next f unmarked unrefused. cut.late before after group next f
        (λ has. unmarked (Contains-append_left marks (length lines ∷ []) (length (joined (before ++ group ∷ []))) has)) unrefused;
    into = append-nil new_packets ∙ e ∙ cut.into;
    flushed = λ has. refl;
    oversize = λ before line f past. refl;
    holds = λ before line f within unmarked unrefused. absurd (unmarked (Contains-push marks (length lines)));
  }

  -- The groups stay a cut after a line was refused, whether the held text was sent before that or not.
  pub refuses_line : (new_packets : List (List ℕ)) (new_held : List ℕ) → new_packets ++ held_packet new_held ≡ packets ++ held_packet held
      → (held ≡ [] → new_held ≡ []) → IsCutSoFar format marks (refusals ++ length lines ∷ []) lines groups new_packets new_held
  refuses_line new_packets new_held e none = record {
    all = cut.all;
    filled = cut.filled;
    fit = cut.fit;
    marked = cut.marked;
    late =
        λ before after group next f unmarked unrefused. cut.late before after group next f unmarked
        (λ has. unrefused (Contains-append_left refusals (length lines ∷ []) (length (joined (before ++ group ∷ []))) has));
    into = e ∙ cut.into;
    flushed = λ has. none (cut.flushed has);
    oversize = λ before line f past. none (cut.oversize before line f past);
    holds = λ before line f within unmarked unrefused. absurd (unrefused (Contains-push refusals (length lines)));
  }

-- Before any line is kept, the empty list of groups is a cut.
pub no_lines : (format : Format) → IsCutSoFar format [] [] [] [] [] []
no_lines format = record {
  all = refl;
  filled = tt;
  fit = tt;
  marked = λ p has. let (k, short, e) = has in absurd (omega arith);
  late = λ before after group next f unmarked unrefused. absurd (none_at before after group next f);
  into = refl;
  flushed = λ has. refl;
  oversize = λ before line f past. refl;
  holds = λ before line f within unmarked unrefused. absurd (omega (arith, ap (λ l. length l) f, length-append before (line ∷ [])));
}
  where
    none_at : (before after : List (List (List ℕ))) (group next : List (List ℕ)) → [] ≡ before ++ (group ∷ next ∷ after) → ⊥
    none_at [] after group next f = absurd cc
    none_at (b ∷ before) after group next f = absurd cc
