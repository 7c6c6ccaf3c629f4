-- The line of a metric, for example `web.requests:3|c|@0.5|#route:home,beta|c:4bb1|T1656581400`.
use Rattle.std.specs.Prelude.{ℕ, Option, None, Some, List, [], ◌∷◌, ◌++◌, codes}
use Rattle.cadence_text.specs.declared.line.MetricType.{MetricType}
use Rattle.cadence_text.specs.declared.line.MetricType.TheVariants.{Counter, Timer, Gauge, Meter, Histogram, Set, Distribution}
use Rattle.cadence_text.specs.declared.line.enrichment.Cardinality.{Cardinality}
use Rattle.cadence_text.specs.declared.line.enrichment.Cardinality.TheVariants.{NoTags, Low, Orchestrator, High}
use Rattle.cadence_value.specs.Number.{Number, decimal_text, number_text, joined_texts, numbers_text}
use Rattle.cadence_text.specs.Metric.{Enrichment, Metric, Tag}

-- the type text of a kind of metric
abbrev pub kind_text : MetricType → List ℕ
kind_text Counter = codes "c"
kind_text Timer = codes "ms"
kind_text Gauge = codes "g"
kind_text Meter = codes "m"
kind_text Histogram = codes "h"
kind_text Set = codes "s"
kind_text Distribution = codes "d"

-- the field of the sampling rate, as `|@0.5`
abbrev pub rate_field : Option Number → List ℕ
rate_field None = []
rate_field (Some rate) = codes "|@" ++ number_text rate

-- a tag's key and the colon after it, or nothing if the tag has no key
abbrev pub key_text : Option (List ℕ) → List ℕ
key_text None = []
key_text (Some key) = key ++ codes ":"

-- the text of a tag: `key:text`, or the text alone if it has no key
abbrev pub tag_text : Tag → List ℕ
tag_text tag = key_text tag.key ++ tag.text

-- the field of the tags, as `|#route:home,beta`
abbrev pub tags_field : List Tag → List ℕ
tags_field [] = []
tags_field (tag ∷ tags) = codes "|#" ++ joined_texts (codes ",") tag_text (tag ∷ tags)

-- the field of the container id, as `|c:4bb1`
abbrev pub container_field : Option (List ℕ) → List ℕ
container_field None = []
container_field (Some container) = codes "|c:" ++ container

-- the text of a cardinality
abbrev pub cardinality_text : Cardinality → List ℕ
cardinality_text NoTags = codes "none"
cardinality_text Low = codes "low"
cardinality_text Orchestrator = codes "orchestrator"
cardinality_text High = codes "high"

-- the field of the external data, as `|e:cn-web,pu-4a`
abbrev pub external_field : Option (List ℕ) → List ℕ
external_field None = []
external_field (Some external) = codes "|e:" ++ external

-- the field of the cardinality, as `|card:low`
abbrev pub cardinality_field : Option Cardinality → List ℕ
cardinality_field None = []
cardinality_field (Some cardinality) = codes "|card:" ++ cardinality_text cardinality

-- the fields of the external data and the cardinality
abbrev pub enrichment_fields : Enrichment → List ℕ
enrichment_fields e = external_field e.external ++ cardinality_field e.cardinality

-- the field of the timestamp, as `|T1656581400`
abbrev pub time_field : Option ℕ → List ℕ
time_field None = []
time_field (Some time) = codes "|T" ++ decimal_text time

-- the line that has this text as its value, and all else from the metric: the name, the value, the kind, and then each
-- optional field that the metric has
abbrev pub line_with : List ℕ → Metric → List ℕ
line_with value m =
    m.name ++ (codes ":" ++ (value ++ (codes "|" ++ (kind_text m.kind
    ++ (rate_field m.rate ++ (tags_field m.tags
    ++ (container_field m.container ++ (enrichment_fields m.enrichment ++ time_field m.time))))))))

-- the line of a metric, whose value is its numbers
unfoldable pub line_of : Metric → List ℕ
line_of m = line_with (numbers_text m.numbers) m
