-- A metric, as data.
use Rattle.std.specs.Prelude.{ℕ, Option, None, Some, List, [], ◌∷◌, ◌++◌}
use Rattle.cadence_text.specs.declared.line.MetricType.{MetricType}
use Rattle.cadence_text.specs.declared.line.enrichment.Cardinality.{Cardinality}
use Rattle.cadence_value.specs.Number.{Number}

-- a tag: its key, if it has one, and its text
pub record Tag : Type 0 where
  pub key : Option (List ℕ)
  pub text : List ℕ

-- a tag with a key
abbrev pub keyed : List ℕ → List ℕ → Tag
keyed key text = record { key = Some key; text = text }

-- a tag without a key
abbrev pub unkeyed : List ℕ → Tag
unkeyed text = record { key = None; text = text }

-- what a Datadog agent uses to add tags to a metric: the external data of the process and the cardinality
pub record Enrichment : Type 0 where
  pub external : Option (List ℕ)
  pub cardinality : Option Cardinality

-- neither external data nor a cardinality
abbrev pub no_enrichment : Enrichment
no_enrichment = record { external = None; cardinality = None }

-- a metric: the name with its prefix, the numbers, the kind, and the optional fields of a line
pub record Metric : Type 0 where
  pub name : List ℕ
  pub numbers : List Number
  pub kind : MetricType
  pub rate : Option Number
  pub tags : List Tag
  pub container : Option (List ℕ)
  pub enrichment : Enrichment
  pub time : Option ℕ

-- the metric with this name, these numbers and this kind, and without any of the optional fields
abbrev pub plain_metric : List ℕ → List Number → MetricType → Metric
plain_metric name numbers kind = record {
  name = name;
  numbers = numbers;
  kind = kind;
  rate = None;
  tags = [];
  container = None;
  enrichment = no_enrichment;
  time = None;
}

-- the metric with one more tag at the end of its tags
abbrev pub with_tag : Metric → Tag → Metric
with_tag m tag = record m { tags = m.tags ++ tag ∷ [] }
