-- Laws that follow from the definitions. src/laws.rt has a function for each, whose contract is the law.
use Rattle.std.specs.Prelude.{ℕ, List, All, codes, map}
use Rattle.cadence_text.specs.Line.{line_of}
use Rattle.cadence_text.specs.OneReading.{IsClear, IsFreeOfSeparators}
use Rattle.cadence_text.specs.Metric.{Metric}
use Rattle.cadence_schedule.specs.Packets.{ArePacketsOf, ReadsAs}
use Rattle.cadence_schedule.specs.Plan.{IsTight, IsFewest}

-- No admissible plan has fewer packets than a tight plan of the same sizes.
abbrev pub LeastPackets : Type 0
LeastPackets = (capacity : ℕ) (marks sizes plan : List ℕ) → IsTight capacity marks sizes plan → IsFewest capacity marks sizes plan

-- If each line ends in a newline and the metrics have the property, then the packets and the held text of their lines are
-- those of these metrics, and of no others that have it.
abbrev pub ReadOneWay : (Metric → Type 0) → Type 0
ReadOneWay Has =
    (capacity : ℕ) (marks refusals plan : List ℕ) (metrics : List Metric) (packets : List (List ℕ)) (held : List ℕ)
    → All Has metrics
    → ArePacketsOf (record { capacity = capacity; ending = codes "\n" }) marks refusals (map line_of metrics) plan packets held
    → ReadsAs Has metrics packets held

-- Packets can be read in one way as clear metrics, and in one way as metrics that are free of separators.
pub record PacketsReadOneWay : Type 0 where
  pub clear : ReadOneWay IsClear
  pub free : ReadOneWay IsFreeOfSeparators
