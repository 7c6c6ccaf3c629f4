-- The packets that a cut of lines makes, and what a listener reads from them.
use Rattle.std.specs.Prelude.{◌≡◌, ◌≢◌, ℕ, List, [], ◌∷◌, ◌++◌, length, map, All, Contains, true, false}
use Rattle.std.specs.List.{AllZip, flat_map}
use Rattle.cadence_text.specs.Metric.{Metric}
use Rattle.cadence_text.specs.OneReading.{IsPacketOf}
use Rattle.cadence_flow.specs.Frame.{Format, is_oversize, size_of, stream, held_packet}
use Rattle.cadence_schedule.specs.Plan.{groups_of, IsAdmissible}

-- The cut is admissible, and its groups are the packets and then the held text, each the frames of its lines. The last
-- group is sent, and not held, if it is an oversize line or a flush came after it. It is held if it is no oversize line
-- and neither a flush nor a refused line came after it.
pub record ArePacketsOf (format : Format) (marks refusals : List ℕ) (lines : List (List ℕ)) (plan : List ℕ) (packets : List (List ℕ))
    (held : List ℕ) : Type 0 where
  pub admissible : IsAdmissible format.capacity marks (map (size_of format) lines) plan
  pub groups : packets ++ held_packet held ≡ map (stream format) (groups_of plan lines)
  pub flushed : Contains marks (length lines) → held ≡ []
  pub oversize : (before : List (List ℕ)) (line : List ℕ) → lines ≡ before ++ line ∷ [] → is_oversize format line ≡ true → held ≡ []
  pub holds : (before : List (List ℕ)) (line : List ℕ) → lines ≡ before ++ line ∷ [] → is_oversize format line ≡ false
      → ¬ Contains marks (length lines) → ¬ Contains refusals (length lines) → held ≢ []

-- The packet has the lines of these metrics, which all have the property, and of no other list of metrics that have it.
pub record IsPacketOfOnly (Has : Metric → Type 0) (metrics : List Metric) (packet : List ℕ) : Type 0 where
  pub each : All Has metrics
  pub reads : IsPacketOf metrics packet
  pub only : (others : List Metric) → All Has others → IsPacketOf others packet → others ≡ metrics

-- Each packet, and the held text if it is not empty, can be read as exactly one list of metrics that have the property,
-- and these lists, joined, are the metrics.
abbrev pub ReadsAs : (Metric → Type 0) → List Metric → List (List ℕ) → List ℕ → Type 0
ReadsAs Has metrics packets held =
    (lists : List (List Metric)) × (flat_map (λ list. list) lists ≡ metrics)
    × AllZip (IsPacketOfOnly Has) lists (packets ++ held_packet held)
