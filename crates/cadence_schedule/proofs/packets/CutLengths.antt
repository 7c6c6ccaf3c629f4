-- The cut of a run by the numbers of lines in its groups, as the report has it.
use Rattle.std.proofs.Common.{◌≡◌, ℕ, ◌<◌, ◌+◌, ◌^◌, ◌≢◌, List, [], ◌∷◌, ◌++◌, length, take, drop, get_or, refl, sym, ap, ◌∙◌, arith, subst, map, sum}
use Rattle.std.specs.Prelude.{Contains}
use Rattle.std.specs.List.{AllByRecursion, concat}
use Rattle.std.proofs.lemmas.List.{length-append, length-map, take-map, drop-map, map-append}
use Rattle.std.proofs.lemmas.List.Sums.{sum_by-cons}
use Rattle.std.proofs.lemmas.List.Elements.{All-from_recursion, Contains-get_or, Contains-append_left, Contains-append_right}
use Rattle.std.proofs.lemmas.Bool.{ltb-true, ltb-false}
use Rattle.cadence_schedule.specs.Plan.{groups_of, FitsPacket, IsAdmissible, NoGroupHasRoom}
use Rattle.cadence_flow.specs.Frame.{Format, size_of, stream}
use Rattle.cadence_schedule.specs.Packets.{ArePacketsOf}
use Rattle.cadence_schedule.proofs.plans.PlanGroups.{HasNoRoomForNext}
use Rattle.cadence_schedule.proofs.packets.ListEnds.{joined, groups_of-lengths}
use Rattle.cadence_flow.specs.Writer.{PacketHistory}
use Rattle.cadence_schedule.specs.Cut.{HasLast}
use Rattle.cadence_schedule.proofs.packets.CutSoFar.{IsCutSoFar, held_last, joined-push}

-- If a function is applied to each element of a list, the list is cut at the same places.
groups_of-map : {X Y : Type 0} (f : X → Y) (plan : List ℕ) (xs : List X) → groups_of plan (map f xs) ≡ map (map f) (groups_of plan xs)
groups_of-map f [] xs = refl
groups_of-map f (count ∷ plan) xs = λ i. take-map f count xs i ∷ (ap (groups_of plan) (drop-map f count xs) ∙ groups_of-map f plan (drop count xs)) i

length-joined : {X : Type 0} (groups : List (List X)) → sum (map length groups) ≡ length (joined groups)
length-joined [] = refl
length-joined (group ∷ groups) =
    omega (arith, sum_by-cons (λ n. n) (length group) (map length groups), length-append group (joined groups), length-joined groups)

each_mapped : {X Y : Type 0} (f : X → Y) (P : Y → Type 0) (xs : List X) → AllByRecursion (λ x. P (f x)) xs → AllByRecursion P (map f xs)
each_mapped f P [] h = tt
each_mapped f P (x ∷ xs) (h, hs) = (h, each_mapped f P xs hs)

-- The lengths of the first groups add up to the number of elements in these groups.
take_lengths : {X : Type 0} (front back : List (List X)) → sum (take (length front) (map length (front ++ back))) ≡ length (joined front)
take_lengths [] back = refl
take_lengths (group ∷ front) back =
    omega (
      arith,
      sum_by-cons (λ n. n) (length group) (take (length front) (map length (front ++ back))),
      length-append group
          (joined front),
      take_lengths front back,
    )

-- If two results of a function are neighbours in a list, then so are the elements to which the function was applied.
from_map : {X Y : Type 0} (f : X → Y) (xs : List X) (before after : List Y) (y z : Y) → map f xs ≡ before ++ (y ∷ z ∷ after)
    → (front : List X) × (back : List X) × (x : X) × (w : X) × (xs ≡ front ++ (x ∷ w ∷ back)) × (map f front ≡ before) × (f x ≡ y) × (f w ≡ z)
from_map f [] [] after y z e = absurd cc
from_map f (a ∷ []) [] after y z e = absurd cc
from_map f (a ∷ b ∷ xs) [] after y z e = let first : f a ≡ y = cc in let second : f b ≡ z = cc in ([], xs, a, b, refl, refl, first, second)
from_map f [] (c ∷ before) after y z e = absurd cc
from_map f (a ∷ xs) (c ∷ before) after y z e =
    let head : f a ≡ c = cc in
    let tail : map f xs ≡ before ++ (y ∷ z ∷ after) = cc in
    let (front, back, x, w, xs_are, fronts, first, second) = from_map f xs before after y z tail in
    (a ∷ front, back, x, w, ap (λ l. a ∷ l) xs_are, (λ i. head i ∷ fronts i), first, second)

-- The groups have as many sizes as lines.
length_sizes : (format : Format) (groups : List (List (List ℕ))) → length (concat (map (map (size_of format)) groups)) ≡ length (joined groups)
length_sizes format [] = refl
length_sizes format (group ∷ groups) =
    omega (
      arith,
      length-append (map (size_of format) group) (concat (map (map (size_of format)) groups)),
      length-append group
          (joined groups),
      length-map group (size_of format),
      length_sizes format groups,
    )

module _ (format : Format) (marks refusals : List ℕ) (lines : List (List ℕ)) (groups : List (List (List ℕ))) (packets : List (List ℕ))
    (held : List ℕ) (cut : IsCutSoFar format marks refusals lines groups packets held) where
  groups_are : groups_of (map length groups) lines ≡ groups
  groups_are = ap (groups_of (map length groups)) (sym cut.all) ∙ groups_of-lengths groups

  size_groups : groups_of (map length groups) (map (size_of format) lines) ≡ map (map (size_of format)) groups
  size_groups = groups_of-map (size_of format) (map length groups) lines ∙ ap (map (map (size_of format))) groups_are

  shown_admissible : IsAdmissible format.capacity marks (map (size_of format) lines) (map length groups)
  shown_admissible = record {
    none_empty = All-from_recursion (λ count. 0 < count) (map length groups) (each_mapped length (λ count. 0 < count) groups cut.filled);
    whole = length-joined groups ∙ ap (λ l. length l) cut.all ∙ sym (length-map lines (size_of format));
    fit = All-from_recursion (FitsPacket format.capacity) (groups_of (map length groups) (map (size_of format) lines))
        (subst (λ gs. AllByRecursion (FitsPacket format.capacity) gs) (sym size_groups)
        (each_mapped (map (size_of format)) (FitsPacket format.capacity) groups cut.fit));
    marked = λ k d in_list within.
        let (front, back, e, at) = cut.marked (get_or marks k d) (Contains-get_or marks k d in_list) in
        (length front, ap (λ gs. sum (take (length front) (map length gs))) e ∙ take_lengths front back ∙ at);
  }

  pub shown_late : NoGroupHasRoom format.capacity (marks ++ refusals) (groups_of (map length groups) (map (size_of format) lines))
  shown_late before after group next e unexcused =
      let (front, back, x, w, gs_are, fronts, first, second) = from_map (map (size_of format)) groups before after group next (sym size_groups ∙ e) in
      let sizes_are : before ++ group ∷ [] ≡ map (map (size_of format)) (front ++ x ∷ []) = (λ i. sym fronts i ++ sym first i ∷ [])
      ∙ sym (map-append (map (size_of format)) front (x ∷ [])) in
      let place : length (joined (front ++ x ∷ [])) ≡ length (concat (before ++ group ∷ [])) = sym (ap (λ gs. length (concat gs)) sizes_are
      ∙ length_sizes format (front ++ x ∷ [])) in
      let passes : HasNoRoomForNext format.capacity (map (size_of format) x) (map (size_of format) w) =
      cut.late front back x w gs_are
      (λ has. unexcused (Contains-append_left marks refusals (length (concat (before ++ group ∷ []))) (subst (λ p. Contains marks p) place has)))
      (λ has. unexcused (Contains-append_right marks refusals (length (concat (before ++ group ∷ [])))
      (subst (λ p. Contains refusals p) place has))) in
      subst (λ g. HasNoRoomForNext format.capacity g next) first (subst (λ n. HasNoRoomForNext format.capacity (map (size_of format) x) n) second passes)

  pub shown : ArePacketsOf format marks refusals lines (map length groups) packets held
  shown = record {
    admissible = shown_admissible;
    groups = cut.into ∙ ap (map (stream format)) (sym groups_are);
    flushed = cut.flushed;
    oversize = λ before line e past. cut.oversize before line e (ltb-true format.capacity (size_of format line) past);
    holds =
        λ before line e within unmarked unrefused. cut.holds before line e (ltb-false format.capacity (size_of format line) within) unmarked
        unrefused;
  }

-- The packets since the start and the held text are a cut of the lines, and the plan has the lengths of its groups.
pub record CutSince (format : Format) (start : List (List ℕ)) (marks refusals : List ℕ) (lines : List (List ℕ)) (plan : List ℕ)
    (history : PacketHistory) (held : List ℕ) : Type 0 where
  pub packets : List (List ℕ)
  pub groups : List (List (List ℕ))
  pub since : history.packets ≡ start ++ packets
  pub plan_is : plan ≡ map length groups
  pub cut : IsCutSoFar format marks refusals lines groups packets held

-- If text is held, the cut ends in a packet that can count one line more.
pub has_last : (format : Format) (start : List (List ℕ)) (marks refusals : List ℕ) (lines : List (List ℕ)) (plan : List ℕ)
    (history : PacketHistory) (held : List ℕ) → CutSince format start marks refusals lines plan history held
    → length lines + 1 < 2 ^ 64 → held ≢ [] → HasLast plan
has_last format start marks refusals lines plan history held a short some =
    let (init, group, groups_are, packets_are, held_is, within, held_length) =
    held_last format marks refusals lines a.groups a.packets held a.cut some in
    let whole : length lines ≡ length (joined init) + length group = ap (λ l. length l) (sym a.cut.all
    ∙ ap (λ gs. joined gs) groups_are ∙ joined-push init group)
    ∙ length-append (joined init) group in (
      map length init,
      length group,
      a.plan_is ∙ ap (map length) groups_are ∙ map-append length init (group ∷ []),
      omega arith,
    )
