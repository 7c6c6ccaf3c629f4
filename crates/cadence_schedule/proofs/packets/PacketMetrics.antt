-- The packet of each group has the lines of its metrics, and of no others.
use Rattle.std.proofs.Common.{◌≡◌, ℕ, ◌+◌, ◌<◌, ◌≤◌, List, [], ◌∷◌, ◌++◌, length, take, drop, refl, sym, ap, ◌∙◌, arith, subst, map, sum}
use Rattle.std.proofs.Common.{All, inl, inr, ⊎_elim, ltb}
use Rattle.std.specs.List.{flat_map, AllByRecursion, AllZip}
use Rattle.std.proofs.lemmas.List.{length-drop, length-map, take-append-drop, take-map, drop-map, nil_from_length, append-nil}
use Rattle.std.proofs.lemmas.List.Sums.{sum_by-cons}
use Rattle.std.proofs.lemmas.List.Elements.{recursion_from_All, All-take, All-drop}
use Rattle.std.proofs.lemmas.Bool.{cases_lt, le-ltb, lt-ltb, cond-true, cond-false}
use Rattle.cadence_schedule.specs.Plan.{groups_of, FitsPacket}
use Rattle.cadence_text.specs.Metric.{Metric}
use Rattle.cadence_text.specs.Line.{line_of}
use Rattle.cadence_text.specs.OneReading.{lines_of, IsPacketOf}
use Rattle.cadence_flow.specs.Frame.{Format, size_of, frame, stream}
use Rattle.cadence_schedule.specs.Packets.{ArePacketsOf, IsPacketOfOnly, ReadsAs}

-- the format with this capacity and the newline as ending
abbrev newline : ℕ → Format
newline capacity = record { capacity = capacity; ending = 10 ∷ [] }

-- If a group is within the capacity, its packet has each line with its newline.
lines_within : (capacity : ℕ) (metrics : List Metric) → sum (map (size_of (newline capacity)) (map line_of metrics)) ≤ capacity
    → stream (newline capacity) (map line_of metrics) ≡ lines_of metrics
lines_within capacity [] h = refl
lines_within capacity (m ∷ metrics) h =
    let parts : sum (map (size_of (newline capacity)) (map line_of (m ∷ metrics))) ≡ size_of (newline capacity) (line_of m) + sum
    (map (size_of (newline capacity)) (map line_of metrics)) =
    sum_by-cons (λ y. y) (size_of (newline capacity) (line_of m)) (map (size_of (newline capacity)) (map line_of metrics)) in
    let first : frame (newline capacity) (line_of m) ≡ line_of m ++ 10 ∷ [] =
    cond-false (ltb capacity (size_of (newline capacity) (line_of m))) (line_of m) (line_of m ++ 10 ∷ [])
    (le-ltb capacity (size_of (newline capacity) (line_of m)) (omega arith)) in
    let rest : stream (newline capacity) (map line_of metrics) ≡ lines_of metrics = lines_within capacity metrics (omega arith) in
    λ i. first i ++ rest i

group_reads : (capacity : ℕ) (metrics : List Metric) → FitsPacket capacity (map (size_of (newline capacity)) (map line_of metrics))
    → IsPacketOf metrics (stream (newline capacity) (map line_of metrics))
group_reads capacity metrics (inr within) = inl (lines_within capacity metrics within)
group_reads capacity [] (inl one) = absurd (omega arith)
group_reads capacity (m ∷ []) (inl one) =
    ⊎_elim
    (λ (past : capacity < size_of (newline capacity) (line_of m)). inr (
      m,
      refl,
      append-nil (frame (newline capacity) (line_of m))
          ∙ cond-true (ltb capacity (size_of (newline capacity) (line_of m))) (line_of m) (line_of m ++ 10 ∷ [])
          (lt-ltb capacity (size_of (newline capacity) (line_of m)) past),
    ))
    (λ (within : size_of (newline capacity) (line_of m) ≤ capacity). inl
    (lines_within capacity (m ∷ []) (omega (arith, sum_by-cons (λ y. y) (size_of (newline capacity) (line_of m)) []))))
    (cases_lt capacity (size_of (newline capacity) (line_of m)))
group_reads capacity (m ∷ n ∷ metrics) (inl one) =
    absurd (omega (arith, length-map (map line_of (m ∷ n ∷ metrics)) (size_of (newline capacity)), length-map (m ∷ n ∷ metrics) line_of))

groups_joined : {X : Type 0} (plan : List ℕ) (xs : List X) → sum plan ≡ length xs → flat_map (λ g. g) (groups_of plan xs) ≡ xs
groups_joined [] xs e = sym (nil_from_length xs (sym e))
groups_joined (count ∷ plan) xs e =
    ap (λ r. take count xs ++ r) (groups_joined plan (drop count xs) (omega (arith, e, length-drop count xs, sum_by-cons (λ y. y) count plan)))
    ∙ take-append-drop count xs

-- A packet is that of at most one list of metrics that have the property.
abbrev pub ReadsOnce : (Metric → Type 0) → Type 0
ReadsOnce Has = (xs ys : List Metric) (packet : List ℕ) → All Has xs → All Has ys → IsPacketOf xs packet → IsPacketOf ys packet → xs ≡ ys

module _ (Has : Metric → Type 0) (law : ReadsOnce Has) (capacity : ℕ) where
  each_reads : (plan : List ℕ) (metrics : List Metric) → All Has metrics
      → AllByRecursion (FitsPacket capacity) (groups_of plan (map (size_of (newline capacity)) (map line_of metrics)))
      → AllZip (IsPacketOfOnly Has) (groups_of plan metrics) (map (stream (newline capacity)) (groups_of plan (map line_of metrics)))
  each_reads [] metrics plain fit = tt
  each_reads (count ∷ plan) metrics plain (first, rest) =
      let here : IsPacketOf (take count metrics) (stream (newline capacity) (take count (map line_of metrics))) =
      subst (λ l. IsPacketOf (take count metrics) (stream (newline capacity) l)) (sym (take-map line_of count metrics))
      (group_reads capacity (take count metrics) (subst (λ l. FitsPacket capacity l)
      (take-map (size_of (newline capacity)) count (map line_of metrics)
      ∙ ap (map (size_of (newline capacity))) (take-map line_of count metrics)) first)) in (
        record {
          each = All-take Has count metrics plain;
          reads = here;
          only = λ others h p. law others (take count metrics)
              (stream (newline capacity) (take count (map line_of metrics))) h (All-take Has count metrics plain) p here;
        },
        subst (λ l. AllZip (IsPacketOfOnly Has) (groups_of plan (drop count metrics)) (map (stream (newline capacity)) (groups_of plan l)))
            (sym (drop-map line_of count metrics))
            (each_reads plan (drop count metrics) (All-drop Has count metrics plain)
            (subst (λ l. AllByRecursion (FitsPacket capacity) (groups_of plan l)) (drop-map (size_of (newline capacity)) count (map line_of metrics)
            ∙ ap (map (size_of (newline capacity))) (drop-map line_of count metrics)) rest)),
      )

pub reads_as : (Has : Metric → Type 0) → ReadsOnce Has
    → (capacity : ℕ) (marks refusals plan : List ℕ) (metrics : List Metric) (packets : List (List ℕ)) (held : List ℕ)
    → All Has metrics → ArePacketsOf (newline capacity) marks refusals (map line_of metrics) plan packets held
    → ReadsAs Has metrics packets held
reads_as Has law capacity marks refusals plan metrics packets held plain p = (
  groups_of plan metrics,
  groups_joined plan metrics (p.admissible.whole ∙ length-map (map line_of metrics) (size_of (newline capacity)) ∙ length-map metrics line_of),
  subst (λ ps. AllZip (IsPacketOfOnly Has) (groups_of plan metrics) ps) (sym p.groups)
      (each_reads Has law capacity plan metrics plain (recursion_from_All (FitsPacket capacity)
      (groups_of plan (map (size_of (newline capacity)) (map line_of metrics))) p.admissible.fit)),
)
