-- A draft: the parts of a metric's line while tags and other options can still be added.
use Rattle.std.specs.Prelude.{ℕ, Bool, true, false, Option, List, [], ◌∷◌, ◌++◌, codes}
use Rattle.cadence_text.specs.declared.line.MetricType.{MetricType}
use Rattle.cadence_value.specs.Number.{Number, numbers_text}
use Rattle.cadence_text.specs.Line.{kind_text, rate_field, tag_text, tags_field, container_field, enrichment_fields, time_field}
use Rattle.cadence_text.specs.Metric.{Enrichment, Metric, Tag}

-- the text of the head, the text of the tags' field, and the other options, which are not text yet
pub record Draft : Type 0 where
  pub head : List ℕ
  pub tags : List ℕ
  pub rate : Option Number
  pub container : Option (List ℕ)
  pub enrichment : Enrichment
  pub time : Option ℕ

-- the head, with which each line begins: the name, the text of the value and the kind
abbrev pub head_with : List ℕ → List ℕ → MetricType → List ℕ
head_with name value kind = name ++ (codes ":" ++ (value ++ (codes "|" ++ kind_text kind)))

-- the head whose value is these numbers
abbrev pub head_text : List ℕ → List Number → MetricType → List ℕ
head_text name numbers kind = head_with name (numbers_text numbers) kind

-- the draft that has this text as its value, and all else from the metric
abbrev pub draft_with : List ℕ → Metric → Draft
draft_with value m = record {
  head = head_with m.name value m.kind;
  tags = tags_field m.tags;
  rate = m.rate;
  container = m.container;
  enrichment = m.enrichment;
  time = m.time;
}

-- the draft of a metric, whose value is its numbers
abbrev pub draft_of : Metric → Draft
draft_of m = draft_with (numbers_text m.numbers) m

-- the line of a draft, in which the rate comes between the head and the tags
abbrev pub draft_line : Draft → List ℕ
draft_line d =
    d.head ++ (rate_field d.rate ++ (d.tags
    ++ (container_field d.container ++ (enrichment_fields d.enrichment ++ time_field d.time))))

-- whether the text of the tags' field has any tag
abbrev pub has_text : List ℕ → Bool
has_text [] = false
has_text (c ∷ cs) = true

-- the text before a tag: a comma if other tags come before it (`true`), and `|#` if it is the first (`false`)
abbrev pub lead : Bool → List ℕ
lead true = codes ","
lead false = codes "|#"

-- the text of a tags' field with one more tag at its end
abbrev pub tags_text_with : List ℕ → Tag → List ℕ
tags_text_with tags tag = tags ++ (lead (has_text tags) ++ tag_text tag)

-- the draft with one more tag at the end of its tags
abbrev pub with_tag_text : Draft → Tag → Draft
with_tag_text d tag = record d { tags = tags_text_with d.tags tag }
