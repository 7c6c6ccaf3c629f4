-- What the line of any client of Statsd or DogStatsD is: a metric, an event, a service check, or none of these.
use Rattle.std.specs.Prelude.{◌≡◌, ◌≢◌, ⊤, ℕ, List, [], ◌∷◌, ◌++◌, All, codes}
use Rattle.cadence_text.specs.Line.{container_field, enrichment_fields, kind_text, line_of, rate_field, tags_field, time_field}
use Rattle.cadence_text.specs.Metric.{Metric}
use Rattle.cadence_text.specs.OneReading.{IsClear, IsNoSeparator}
use Rattle.cadence_value.specs.Finds.{HasNone}
use Rattle.cadence_value.specs.Number.{numbers_text}
use Rattle.cadence_read.specs.declared.any_line.AnyLine.{AnyLine}
use Rattle.cadence_read.specs.declared.any_line.AnyLine.TheVariants.{Event, MetricLine, Opaque, ServiceCheck}
use Rattle.cadence_read.specs.declared.any_line.MetricParts.{MetricParts}
use Rattle.cadence_read.specs.declared.text_parts.TextParts.{TextParts}

-- the parts of a metric's line
pub record Parts : Type 0 where
  pub name : List ℕ
  pub values : List ℕ
  pub kind : List ℕ
  pub fields : List ℕ

-- the line of these parts: the name, a colon, the values, a bar, the kind and the other fields
abbrev pub line_of_parts : Parts → List ℕ
line_of_parts p = p.name ++ 58 ∷ (p.values ++ 124 ∷ (p.kind ++ p.fields))

-- There are no other fields, or they begin with a bar.
abbrev pub AreFields : List ℕ → Type 0
AreFields [] = ⊤
AreFields (byte ∷ bytes) = byte ≡ 124

-- These are the parts of the line. So the name ends at the first colon, the values end at the first bar, and the kind
-- ends at the next bar or at the end of the line.
pub record IsCut (line : List ℕ) (p : Parts) : Type 0 where
  pub whole : line ≡ line_of_parts p
  pub colon : All (λ byte. byte ≢ 58) p.name
  pub name : All (λ byte. byte ≢ 124) p.name
  pub values : All (λ byte. byte ≢ 124) p.values
  pub kind : All (λ byte. byte ≢ 124) p.kind
  pub fields : AreFields p.fields

-- The line begins with `_e{`, and the first separator after that is a comma.
abbrev pub IsEvent : List ℕ → Type 0
IsEvent line = (size : List ℕ) × (rest : List ℕ) × (line ≡ codes "_e{" ++ (size ++ 44 ∷ rest)) × All IsNoSeparator size

-- The line begins with `_sc|`.
abbrev pub IsServiceCheck : List ℕ → Type 0
IsServiceCheck line = (rest : List ℕ) × (line ≡ codes "_sc|" ++ rest)

-- the parts that a function returned
abbrev pub parts_of : MetricParts → Parts
parts_of p = record { name = p.name.now; values = p.values.now; kind = p.kind.now; fields = p.fields.now }

-- the parts that a function returned as texts
abbrev pub parts_of_text : TextParts → Parts
parts_of_text p = record { name = p.name.now; values = p.values.now; kind = p.kind.now; fields = p.fields.now }

-- The line is neither an event nor a service check.
abbrev pub IsOther : List ℕ → Type 0
IsOther line = (IsEvent line → ⊥) × (IsServiceCheck line → ⊥)

-- What was found is what the line is. An opaque line has no parts of a metric.
abbrev pub IsFound : List ℕ → AnyLine → Type 0
IsFound line (MetricLine p) = IsOther line × IsCut line (parts_of p)
IsFound line (Event text) = (text.now ≡ line) × IsEvent line
IsFound line (ServiceCheck text) = (text.now ≡ line) × IsServiceCheck line
IsFound line (Opaque text) = (text.now ≡ line) × IsOther line × HasNone (IsCut line)

-- the parts of the line of a metric that this library's clients send
abbrev pub own_parts : Metric → Parts
own_parts m = record {
  name = m.name;
  values = numbers_text m.numbers;
  kind = kind_text m.kind;
  fields = rate_field m.rate ++ (tags_field m.tags
      ++ (container_field m.container ++ (enrichment_fields m.enrichment ++ time_field m.time)));
}

-- A line has at most one way to be cut. The line of a clear metric is neither an event nor a service check, and its parts
-- are the texts of the metric.
pub record CutsOwnLines : Type 0 where
  pub once : (line : List ℕ) (p q : Parts) → IsCut line p → IsCut line q → p ≡ q
  pub other : (m : Metric) → IsClear m → IsOther (line_of m)
  pub own : (m : Metric) → IsClear m → IsCut (line_of m) (own_parts m)
