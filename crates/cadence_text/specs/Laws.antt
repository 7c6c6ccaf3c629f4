-- Laws of the grammar of lines.
use Rattle.std.specs.Prelude.{◌≡◌, ℕ, ◌<◌, ◌↔◌, List, Option, All, IfSome, IsTrue, length}
use Rattle.std.specs.List.{list_all}
use Rattle.cadence_text.specs.Line.{line_of}
use Rattle.cadence_text.specs.Metric.{Metric, Tag}
use Rattle.cadence_text.specs.OneReading.{IsClear, IsClearTag, IsFieldText, IsFreeOfSeparators, IsFreeText, IsPacketOf}
use Rattle.cadence_text.specs.FreeTexts.{is_clear_tag, is_field_if_any, is_free_text, is_free_if_any}

-- If two metrics are clear and have the same line, they are the same metric.
abbrev pub LineReadsOneWay : Type 0
LineReadsOneWay = (a b : Metric) → IsClear a → IsClear b → line_of a ≡ line_of b → a ≡ b

-- If a packet is the packet of two lists of clear metrics, they are the same list.
abbrev pub PacketReadsOneWay : Type 0
PacketReadsOneWay =
    (xs ys : List Metric) (packet : List ℕ)
    → All IsClear xs → All IsClear ys → IsPacketOf xs packet → IsPacketOf ys packet → xs ≡ ys

-- A metric without separators is clear.
abbrev pub FreeIsClear : Type 0
FreeIsClear = (metric : Metric) → IsFreeOfSeparators metric → IsClear metric

-- No line is empty.
abbrev pub NoLineIsEmpty : Type 0
NoLineIsEmpty = (metric : Metric) → 0 < length (line_of metric)

-- The tests are true if and only if the text has no separator, the tag or each tag of the list is clear, or the text can
-- be that of a field.
pub record ClearTextsPass : Type 0 where
  pub texts : (text : List ℕ) → IsTrue (is_free_text text) ↔ IsFreeText text
  pub any : (text : Option (List ℕ)) → IsTrue (is_free_if_any text) ↔ IfSome text IsFreeText
  pub tag : (tag : Tag) → IsTrue (is_clear_tag tag) ↔ IsClearTag tag
  pub tags : (tags : List Tag) → IsTrue (list_all is_clear_tag tags) ↔ All IsClearTag tags
  pub field : (text : Option (List ℕ)) → IsTrue (is_field_if_any text) ↔ IfSome text IsFieldText
