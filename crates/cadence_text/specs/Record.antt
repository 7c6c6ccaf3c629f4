-- The metric that a `Record` represents.
use Rattle.std.specs.Prelude.{◌++◌, map}
use Rattle.std.specs.Option.{option_copied}
use Rattle.cadence_text.specs.declared.line.tag.Tag.{Tag as TagParts}
use Rattle.cadence_text.specs.declared.line.enrichment.Enrichment.{Enrichment as EnrichmentParts}
use Rattle.cadence_text.specs.declared.line.record.Record.TheInside.{Inside}
use Rattle.cadence_text.specs.Metric.{Enrichment, Metric, Tag}
use Rattle.cadence_value.specs.Values.{numbers_of}

-- the tag that a borrowed `Tag` represents
abbrev pub tag_of : TagParts → Tag
tag_of tag = record { key = option_copied tag.key; text = tag.text.now }

-- the enrichment that a borrowed `Enrichment` represents
abbrev pub enrichment_of : EnrichmentParts → Enrichment
enrichment_of e = record { external = option_copied e.external; cardinality = e.cardinality }

-- the metric that a `Record` represents: the name is the prefix followed by the key, and the Rust type of the numbers
-- makes no difference
abbrev pub metric_of : {Z : Type 0} → Inside Z → Metric
metric_of r = record {
  name = r.head.prefix.now ++ r.head.key.now;
  numbers = numbers_of r.head.value;
  kind = r.head.kind;
  rate = r.rate;
  tags = map tag_of r.tags.items;
  container = option_copied r.container;
  enrichment = enrichment_of r.enrichment;
  time = r.time;
}
