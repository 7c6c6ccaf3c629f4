-- The metric that an `OwnedMetric` represents.
use Rattle.std.specs.Prelude.{Option, List, map, String, Vec}
use Rattle.std.specs.Option.{option_map}
use Rattle.std.specs.String.{string_bytes}
use Rattle.cadence_text.specs.declared.line.record.owned.OwnedMetric.{OwnedMetric}
use Rattle.cadence_text.specs.Metric.{Metric, Tag, no_enrichment}

-- the tag that an `OwnedTag` represents
abbrev pub tag_of_owned : {Z : Type 0} → Option (String Z) × String Z → Tag
tag_of_owned tag = record { key = option_map string_bytes tag.0; text = string_bytes tag.1 }

-- the metric that an `OwnedMetric` represents, which has neither external data nor a cardinality
abbrev pub metric_of_owned : {Z : Type 0} → OwnedMetric Z → Metric
metric_of_owned m = record {
  name = string_bytes m.name;
  numbers = m.numbers.items;
  kind = m.kind;
  rate = m.rate;
  tags = map tag_of_owned m.tags.items;
  container = option_map string_bytes m.container;
  enrichment = no_enrichment;
  time = m.time;
}

-- the metrics of a list of `OwnedMetric`s
abbrev pub metrics_of : {Z : Type 0} → Vec (OwnedMetric Z) Z → List Metric
metrics_of metrics = map metric_of_owned metrics.items
