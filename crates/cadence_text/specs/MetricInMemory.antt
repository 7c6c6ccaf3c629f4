-- For proofs: metrics that could be in memory as a `Record`. The texts are in UTF-8, each number could be a `Decimal`, and
-- no text and no list is longer than memory allows. `IsRepresentable` says the same without the limits of length, and
-- promises cite only that. The limits show that a line has fewer than 2 ^ 126 bytes, so that its length can be counted in
-- 128 bits.
use Rattle.std.specs.Prelude.{ℕ, ◌<◌, ◌^◌, Option, List, All, IfSome, length}
use Rattle.std.specs.Str.{IsUtf8}
use Rattle.cadence_text.specs.Metric.{Metric, Tag}
use Rattle.cadence_value.specs.Number.{IsDecimal}
pub use Rattle.cadence_value.specs.InMemory.{AreNumbersInMemory, IsTextInMemory}

-- The tag could be a `Tag`: its key, if it has one, and its text could be a `&str`.
pub record IsTagInMemory (tag : Tag) : Type 0 where
  pub key : IfSome tag.key IsTextInMemory
  pub text : IsTextInMemory tag.text

-- the number of tags that no list in memory reaches, because each `Tag` has at least 8 bytes: `memory_limit` divided by
-- 8
abbrev pub tags_limit : ℕ
tags_limit = 2 ^ 60

-- The tags could be a list of `Tag`s in memory.
pub record AreTagsInMemory (tags : List Tag) : Type 0 where
  pub each : All IsTagInMemory tags
  pub few : length tags < tags_limit

-- The timestamp, if there is one, fits 64 bits.
abbrev pub IsTimestamp : Option ℕ → Type 0
IsTimestamp time = IfSome time (λ t. t < 2 ^ 64)

-- The metric could be a `Record`. The name is made of two texts, the prefix and the key, so it can be twice as long as
-- one text.
pub record IsMetricInMemory (metric : Metric) : Type 0 where
  pub name : length metric.name < 2 ^ 64
  pub utf8 : IsUtf8 metric.name
  pub numbers : AreNumbersInMemory metric.numbers
  pub rate : IfSome metric.rate IsDecimal
  pub tags : AreTagsInMemory metric.tags
  pub container : IfSome metric.container IsTextInMemory
  pub external : IfSome metric.enrichment.external IsTextInMemory
  pub time : IsTimestamp metric.time
