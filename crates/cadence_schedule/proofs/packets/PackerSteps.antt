-- What a write or a flush of the packer does to the cut of the kept lines.
use Rattle.std.proofs.Common.{◌≡◌, ◌≢◌, ℕ, ◌+◌, ◌<◌, ◌≤◌, ◌⊎◌, List, [], ◌∷◌, ◌++◌, Ok, Err, true, false, length, refl, sym, ap, ◌∙◌, arith}
use Rattle.std.proofs.Common.{subst, map, sum, inl, inr, ⊎_elim}
use Rattle.std.specs.Prelude.{Contains, nat_le}
use Rattle.std.proofs.lemmas.List.{append-nil, append_assoc, length-append, map-append, same_from_push}
use Rattle.std.proofs.lemmas.Bool.{cases_lt, lt-ltb, le-ltb, le-leb, lt-leb}
use Rattle.cadence_errors.specs.declared.SinkError.{SinkError}
use Rattle.cadence_flow.specs.Frame.{Format, size_of, is_oversize, frame, held_packet}
use Rattle.cadence_flow.specs.Packer.{PackerState, Writes}
use Rattle.cadence_flow.specs.Writer.{PacketHistory, WriterKind}
use Rattle.cadence_schedule.proofs.plans.PlanGroups.{HasNoRoomForNext}
use Rattle.cadence_schedule.specs.Cut.{HasLast, Counted, CountsLine, joins_held}
use Rattle.cadence_schedule.proofs.packets.CutSoFar.{IsCutSoFar, new_group, joins_group, refuses_line, last_held, held_last, frame_within}
use Rattle.cadence_schedule.proofs.packets.CutSoFar.{frame_past, held_packet_is, nil_front}

-- the state of a packer
abbrev pub packer : PacketHistory → List ℕ → PackerState
packer history held = record { history = history; held = held }

-- A line was written: it joins the held text; or the held text is sent first, and the line is held; or the line is
-- oversize, and is sent after the held text.
abbrev pub Written : Format → List ℕ → List ℕ → List (List ℕ) → List ℕ → List ℕ → List (List ℕ) → List ℕ → Type 0
Written format line plan packets held plan' packets' held' =
    ((length held + size_of format line ≤ format.capacity) × (held ≢ [])
    × ((front : List ℕ) × (count : ℕ) × (plan ≡ front ++ count ∷ []) × (plan' ≡ front ++ (count + 1) ∷ [])) × (packets' ≡ packets)
    × (held' ≡ held ++ (line ++ format.ending)))
    ⊎ ((size_of format line ≤ format.capacity) × ((held ≡ []) ⊎ (format.capacity < length held + size_of format line))
    × (plan' ≡ plan ++ 1 ∷ []) × (packets' ≡ packets ++ held_packet held) × (held' ≡ line ++ format.ending))
    ⊎ ((format.capacity < size_of format line) × (plan' ≡ plan ++ 1 ∷ []) × (packets' ≡ (packets ++ held_packet held) ++ line ∷ []) × (held' ≡ []))

-- A line was refused: the held text is still held, or it was sent.
abbrev pub Refused : List ℕ → List (List ℕ) → List ℕ → List ℕ → List (List ℕ) → List ℕ → Type 0
Refused plan packets held plan' packets' held' =
    (plan' ≡ plan) × (((packets' ≡ packets) × (held' ≡ held)) ⊎ ((packets' ≡ packets ++ held_packet held) × (held' ≡ [])))

-- If sending the held text added a packet, the packets since the start of the run have that one at the end.
closed_after : (start packets old new : List (List ℕ)) (held : List ℕ) → old ≡ start ++ packets → new ≡ old ++ held_packet held
    → new ≡ start ++ (packets ++ held_packet held)
closed_after start packets old new held o n = n ∙ ap (λ p. p ++ held_packet held) o ∙ append_assoc start packets (held_packet held)

module _ (kind : WriterKind) (format : Format) (reports : kind.reports ≡ true) (whole : kind.takes_whole ≡ true) (start : List (List ℕ)) where
  -- These lemmas are about the three ways in which a line is kept, by its size and by what is held.
  kept_nothing_held : (old new : PacketHistory) (packets : List (List ℕ)) (rest line plan plan' : List ℕ) (n : ℕ)
      → old.packets ≡ start ++ packets → size_of format line ≤ format.capacity
      → Writes kind format (packer old []) (packer new rest) line (Ok n) → CountsLine format [] line (Ok n) plan plan'
      → (packets' : List (List ℕ)) × (new.packets ≡ start ++ packets') × Written format line plan packets [] plan' packets' rest
  kept_nothing_held old new packets rest line plan plan' n o small w counts =
      let fits = w.fits (omega arith) in (
        packets ++ [],
        ap (λ h. h.packets) fits.history ∙ o
            ∙ ap (λ p. start ++ p) (sym (append-nil packets)),
        inr (inl (small, inl refl, counts (λ some. absurd (some refl)), refl, fits.held)),
      )

  kept_held : (old new : PacketHistory) (packets : List (List ℕ)) (b : ℕ) (bs rest line plan plan' : List ℕ) (n : ℕ)
      → old.packets ≡ start ++ packets → size_of format line ≤ format.capacity → HasLast plan
      → Writes kind format (packer old (b ∷ bs)) (packer new rest) line (Ok n) → CountsLine format (b ∷ bs) line (Ok n) plan plan'
      → (packets' : List (List ℕ)) × (new.packets ≡ start ++ packets') × Written format line plan packets (b ∷ bs) plan' packets' rest
  kept_held old new packets b bs rest line plan plan' n o small last w counts =
      ⊎_elim
      (λ (full : format.capacity < length (b ∷ bs) + size_of format line).
      let short : is_oversize format line ≡ false = le-ltb format.capacity (size_of format line) small in
      let begins : nat_le (length (b ∷ bs) + size_of format line) format.capacity ≡ false =
      lt-leb (length (b ∷ bs) + size_of format line) format.capacity full in
      let plan_is : plan' ≡ plan ++ 1 ∷ [] = subst (λ j. Counted j plan plan') begins (counts (λ some. last)) in (
        packets ++ held_packet (b ∷ bs),
        closed_after start packets old.packets new.packets (b ∷ bs) o ((w.goes_first full short).one_packet reports whole),
        inr
            (inl (small, inr full, plan_is, refl, (w.goes_first full short).held)),
      ))
      (λ (room : length (b ∷ bs) + size_of format line ≤ format.capacity).
      let fits = w.fits room in
      let joins : nat_le (length (b ∷ bs) + size_of format line) format.capacity ≡ true =
      le-leb (length (b ∷ bs) + size_of format line) format.capacity room in
      let plan_is : Counted true plan plan' = subst (λ j. Counted j plan plan') joins (counts (λ some. last)) in
      (packets, ap (λ h. h.packets) fits.history ∙ o, inl (room, (λ none. absurd cc), plan_is, refl, fits.held)))
      (cases_lt format.capacity (length (b ∷ bs) + size_of format line))

  not_joined : (held line : List ℕ) → format.capacity < size_of format line → joins_held format held line ≡ false
  not_joined [] line large = refl
  not_joined (b ∷ bs) line large = lt-leb (length (b ∷ bs) + size_of format line) format.capacity (omega arith)

  kept_oversize : (old new : PacketHistory) (packets : List (List ℕ)) (held rest line plan plan' : List ℕ) (n : ℕ)
      → old.packets ≡ start ++ packets → format.capacity < size_of format line → (held ≢ [] → HasLast plan)
      → Writes kind format (packer old held) (packer new rest) line (Ok n) → CountsLine format held line (Ok n) plan plan'
      → (packets' : List (List ℕ)) × (new.packets ≡ start ++ packets') × Written format line plan packets held plan' packets' rest
  kept_oversize old new packets held rest line plan plan' n o large last w counts =
      let over : is_oversize format line ≡ true = lt-ltb format.capacity (size_of format line) large in
      let plan_is : plan' ≡ plan ++ 1 ∷ [] = subst (λ j. Counted j plan plan') (not_joined held line large) (counts last) in
      let closed : old.packets ++ held_packet held ≡ start ++ (packets ++ held_packet held) =
      closed_after start packets old.packets (old.packets ++ held_packet held) held o refl in (
        (packets ++ held_packet held) ++ line ∷ [],
        (w.alone over).two_packets reports whole ∙ ap (λ p. p ++ line ∷ []) closed ∙ append_assoc start (packets ++ held_packet held) (line ∷ []),
        inr (inr (large, plan_is, refl, (w.alone over).held)),
      )

  pub written : (old new : PacketHistory) (packets : List (List ℕ)) (held rest line plan plan' : List ℕ) (n : ℕ)
      → old.packets ≡ start ++ packets → (held ≢ [] → HasLast plan)
      → Writes kind format (packer old held) (packer new rest) line (Ok n) → CountsLine format held line (Ok n) plan plan'
      → (packets' : List (List ℕ)) × (new.packets ≡ start ++ packets') × Written format line plan packets held plan' packets' rest
  written old new packets [] rest line plan plan' n o last w counts =
      ⊎_elim
      (λ (large : format.capacity < size_of format line). kept_oversize old new packets [] rest line plan plan' n o large last w counts)
      (λ (small : size_of format line ≤ format.capacity). kept_nothing_held old new packets rest line plan plan' n o small w counts)
      (cases_lt format.capacity (size_of format line))
  written old new packets (b ∷ bs) rest line plan plan' n o last w counts =
      ⊎_elim
      (λ (large : format.capacity < size_of format line). kept_oversize old new packets (b ∷ bs) rest line plan plan' n o large last w counts)
      (λ (small : size_of format line ≤ format.capacity). kept_held old new packets b bs rest line plan plan' n o small
      (last (λ none. absurd cc)) w counts)
      (cases_lt format.capacity (size_of format line))

  pub refused : (old new : PacketHistory) (packets : List (List ℕ)) (held rest line plan plan' : List ℕ) (e : SinkError)
      → old.packets ≡ start ++ packets
      → Writes kind format (packer old held) (packer new rest) line (Err e) → CountsLine format held line (Err e) plan plan'
      → (packets' : List (List ℕ)) × (new.packets ≡ start ++ packets') × Refused plan packets held plan' packets' rest
  refused old new packets held [] line plan plan' e o w counts = (
    packets ++ held_packet held,
    closed_after start packets old.packets new.packets held o (w.fails.sent reports whole refl),
    (counts, inr (refl, refl)),
  )
  refused old new packets held (b ∷ bs) line plan plan' e o w counts =
      let (rest_is, same) = w.fails.refused reports whole (omega arith) in
      (packets, same ∙ o, (counts, inl (refl, rest_is)))

map-push : {X Y : Type 0} (f : X → Y) (xs : List X) (x : X) → map f (xs ++ x ∷ []) ≡ map f xs ++ f x ∷ []
map-push f xs x = map-append f xs (x ∷ [])

joins_held_text : (format : Format) (marks refusals : List ℕ) (lines : List (List ℕ)) (groups : List (List (List ℕ)))
    (packets packets' : List (List ℕ)) (held held' : List ℕ)
    → packets ≡ packets' → held ≡ held' → IsCutSoFar format marks refusals lines groups packets held
    → IsCutSoFar format marks refusals lines groups packets' held'
joins_held_text format marks refusals lines groups packets packets' held held' p h cut =
    subst (λ x. IsCutSoFar format marks refusals lines groups x held') p (subst (λ x. IsCutSoFar format marks refusals lines groups packets x) h cut)

module _ (format : Format) (marks refusals : List ℕ) (lines : List (List ℕ)) (groups : List (List (List ℕ))) where
  pub cut_written : (line plan plan' : List ℕ) (packets packets' : List (List ℕ)) (held held' : List ℕ) → line ≢ []
      → plan ≡ map length groups → IsCutSoFar format marks refusals lines groups packets held
      → Written format line plan packets held plan' packets' held'
      → (groups' : List (List (List ℕ))) × (plan' ≡ map length groups') × IsCutSoFar format marks refusals (lines ++ line ∷ []) groups' packets' held'
  cut_written line plan plan' packets packets' held held' some plan_is cut (inl joins) =
      let (fits, some_held, plans, packets_is, held_is) = joins in
      let (front, count, old_plan, new_plan) = plans in
      let (init, group, groups_are, grown) = joins_group format marks refusals lines groups packets held cut line some_held fits in
      let (fronts, counts) = same_from_push front (map length init) count (length group) (sym old_plan ∙ plan_is
      ∙ ap (map length) groups_are ∙ map-push length init group) in
      let bigger : count + 1 ≡ length (group ++ line ∷ []) = omega (arith, counts, length-append group (line ∷ [])) in (
        init ++ (group ++ line ∷ []) ∷ [],
        new_plan ∙ (λ i. fronts i ++ bigger i ∷ []) ∙ sym (map-push length init (group ++ line ∷ [])),
        joins_held_text format marks refusals (lines ++ line ∷ []) (init ++ (group ++ line ∷ []) ∷ []) packets packets'
            (held ++ frame format line) held' (sym packets_is)
            (ap (λ t. held ++ t) (frame_within format line (omega arith)) ∙ sym held_is) grown,
      )
  cut_written line plan plan' packets packets' held held' some plan_is cut (inr (inl begins)) =
      let (small, why, new_plan, packets_is, held_is) = begins in
      let filled : line ++ format.ending ≢ [] = λ none. some (nil_front line format.ending none) in (
        groups ++ (line ∷ []) ∷ [],
        new_plan ∙ ap (λ p. p ++ 1 ∷ []) plan_is ∙ sym (map-push length groups (line ∷ [])),
        new_group format marks refusals lines groups packets held cut line packets' held'
            (λ i. packets_is i ++ (ap held_packet held_is ∙ held_packet_is (line ++ format.ending) filled
            ∙ ap (λ t. t ∷ []) (sym (frame_within format line small))) i)
            (λ past. absurd (omega arith))
            (λ within none. filled (sym held_is ∙ none))
            (begins_border why small),
      )
    where
      begins_border : (held ≡ []) ⊎ (format.capacity < length held + size_of format line) → size_of format line ≤ format.capacity
          → (init : List (List (List ℕ))) (group : List (List ℕ)) → groups ≡ init ++ group ∷ [] → ¬ Contains marks (length lines)
          → ¬ Contains refusals (length lines) → HasNoRoomForNext format.capacity (map (size_of format) group) (size_of format line ∷ [])
      begins_border (inl none) small' init group e unmarked unrefused within next_within =
          absurd (last_held format marks refusals lines groups packets held cut init group e unmarked unrefused within none)
      begins_border (inr full) small' init group e unmarked unrefused within next_within =
          let (init', group', e', fronts, texts, within', held_length) =
          held_last format marks refusals lines groups packets held cut (λ none. absurd (omega (arith, ap (λ t. length t) none))) in
          let (inits, lasts) = same_from_push init init' group group' (sym e ∙ e') in
          let goal : format.capacity < sum (map (size_of format) group) + size_of format line =
          omega (arith, held_length, ap (λ g. sum (map (size_of format) g)) lasts) in goal
  cut_written line plan plan' packets packets' held held' some plan_is cut (inr (inr alone)) =
      let (large, new_plan, packets_is, held_is) = alone in (
        groups ++ (line ∷ []) ∷ [],
        new_plan ∙ ap (λ p. p ++ 1 ∷ []) plan_is ∙ sym (map-push length groups (line ∷ [])),
        new_group format marks refusals lines groups packets held cut line packets' held'
            ((λ i. packets_is i ++ held_packet (held_is i)) ∙ append-nil ((packets ++ held_packet held) ++ line ∷ [])
            ∙ ap (λ t. (packets ++ held_packet held) ++ t ∷ []) (sym (frame_past format line large)))
            (λ past. held_is) (λ within. absurd (omega arith))
            (λ init group e unmarked unrefused within next_within. absurd (omega arith)),
      )

  pub cut_refused : (plan plan' : List ℕ) (packets packets' : List (List ℕ)) (held held' : List ℕ)
      → IsCutSoFar format marks refusals lines groups packets held → Refused plan packets held plan' packets' held'
      → IsCutSoFar format marks (refusals ++ length lines ∷ []) lines groups packets' held'
  cut_refused plan plan' packets packets' held held' cut (plans, inl same) =
      let (packets_is, held_is) = same in
      refuses_line format marks refusals lines groups packets held cut packets' held' (λ i. packets_is i ++ held_packet (held_is i)) (λ none. held_is
      ∙ none)
  cut_refused plan plan' packets packets' held held' cut (plans, inr out) =
      let (packets_is, held_is) = out in
      refuses_line format marks refusals lines groups packets held cut packets' held' ((λ i. packets_is i ++ held_packet (held_is i))
      ∙ append-nil (packets ++ held_packet held)) (λ none. held_is)
