-- Metrics that Rust values can represent: the texts are in UTF-8, each number could be a `Decimal`, and the time fits
-- 64 bits.
use Rattle.std.specs.Prelude.{◌<◌, ◌^◌, All, IfSome}
use Rattle.std.specs.Str.{IsUtf8}
use Rattle.cadence_text.specs.Metric.{Metric, Tag}
use Rattle.cadence_value.specs.Number.{IsDecimal}

-- The key of the tag, if it has one, and its text are in UTF-8.
pub record IsRepresentableTag (tag : Tag) : Type 0 where
  pub key : IfSome tag.key IsUtf8
  pub text : IsUtf8 tag.text

-- The texts of the metric are in UTF-8, its numbers and its rate could be `Decimal`s, and its timestamp fits 64 bits.
pub record IsRepresentable (metric : Metric) : Type 0 where
  pub name : IsUtf8 metric.name
  pub numbers : All IsDecimal metric.numbers
  pub rate : IfSome metric.rate IsDecimal
  pub tags : All IsRepresentableTag metric.tags
  pub container : IfSome metric.container IsUtf8
  pub external : IfSome metric.enrichment.external IsUtf8
  pub time : IfSome metric.time (λ time. time < 2 ^ 64)
