-- The metrics that can be read from a packet, and the lists of metrics of packets.
use Rattle.std.specs.Prelude.{◌≡◌, ⊤, ℕ, List, All, Result, Ok, Err, Vec}
use Rattle.std.specs.List.{AllZip, flat_map}
use Rattle.std.specs.Str.{IsUtf8}
use Rattle.cadence_text.specs.declared.line.record.owned.OwnedMetric.{OwnedMetric}
use Rattle.cadence_text.specs.Line.{line_of}
use Rattle.cadence_text.specs.Metric.{Metric, Tag, no_enrichment}
use Rattle.cadence_text.specs.OneReading.{IsFreeOfSeparators, IsFreeTag, IsFreeText, IsPacketOf}
use Rattle.cadence_text.specs.Owned.{metrics_of}
use Rattle.cadence_text.specs.Representable.{IsRepresentable, IsRepresentableTag}
use Rattle.cadence_errors.specs.declared.input_error.InputError.TheVariants.{Unusable, OutOfMemory}
use Rattle.cadence_read.specs.Faults.{Fault}

-- The text is in UTF-8 and has no separators.
abbrev pub IsText : List ℕ → Type 0
IsText text = IsFreeText text × IsUtf8 text

-- Rust values can represent the tag, and its texts have no separators.
pub record IsListedTag (tag : Tag) : Type 0 where
  pub representable : IsRepresentableTag tag
  pub free : IsFreeTag tag

-- Rust values can represent the metric, its texts have no separators, and it has neither external data nor a cardinality.
pub record IsListed (metric : Metric) : Type 0 where
  pub representable : IsRepresentable metric
  pub free : IsFreeOfSeparators metric
  pub bare : metric.enrichment ≡ no_enrichment

-- The metric can be read from a packet, and this is its line.
abbrev pub IsMetricOf : List ℕ → Metric → Type 0
IsMetricOf line metric = IsListed metric × (line_of metric ≡ line)

-- The metrics can be read from a packet, and this is their packet.
pub record IsListOf (packet : List ℕ) (metrics : List Metric) : Type 0 where
  pub listed : All IsListed metrics
  pub whole : IsPacketOf metrics packet

-- If the text is unusable, no list of metrics has this packet. If memory ran out, nothing is known about the
-- packet.
abbrev pub FailsPacket : List ℕ → Fault → Type 0
FailsPacket packet (Unusable why) = (metrics : List Metric) → IsListOf packet metrics → ⊥
FailsPacket packet OutOfMemory = ⊤

-- If metrics were read, this is their packet. If there is an error instead, it is one that `FailsPacket` allows.
abbrev pub ReadsPacket : {Z : Type 0} → List ℕ → Result (Vec (OwnedMetric Z) Z) Fault → Type 0
ReadsPacket packet (Ok metrics) = IsListOf packet (metrics_of metrics)
ReadsPacket packet (Err e) = FailsPacket packet e

-- Each packet is the packet of a list of metrics, and these lists, joined, are the metrics.
abbrev pub AreListed : List (List ℕ) → List Metric → Type 0
AreListed packets metrics = (lists : List (List Metric)) × AllZip IsListOf packets lists × (flat_map (λ list. list) lists ≡ metrics)
