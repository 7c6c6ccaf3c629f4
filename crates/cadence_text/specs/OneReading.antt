-- Metrics whose lines can be read in one way only, because each text in them ends where it seems to end.
use Rattle.std.specs.Prelude.{◌≡◌, ◌≢◌, ◌<◌, ◌↔◌, ℕ, ◌⊎◌, List, [], ◌∷◌, ◌++◌, All, IfSome, Option, None, Some, codes, slice_index}
use Rattle.std.specs.List.{flat_map}
use Rattle.cadence_text.specs.Metric.{Metric, Tag}
use Rattle.cadence_text.specs.Line.{line_of}

-- The byte is none of the separators `:`, `,`, `|` and newline.
abbrev pub IsNoSeparator : ℕ → Type 0
IsNoSeparator byte = (byte ≢ 58) × (byte ≢ 44) × (byte ≢ 124) × (byte ≢ 10)

-- The byte doesn't end a tag: it is neither a comma nor a bar nor a newline.
abbrev pub IsNoTagEnd : ℕ → Type 0
IsNoTagEnd byte = (byte ≢ 44) × (byte ≢ 124) × (byte ≢ 10)

-- The byte doesn't end a field: it is neither a bar nor a newline.
abbrev pub EndsNoField : ℕ → Type 0
EndsNoField byte = (byte ≢ 124) × (byte ≢ 10)

-- The table has a flag for each byte, and the flag is zero if and only if the byte is no separator.
unfoldable pub AreSeparatorFlags : List ℕ → Type 0
AreSeparatorFlags flags = (byte : ℕ) → byte < 256 → (slice_index flags byte ≡ 0) ↔ IsNoSeparator byte

-- The text has no separator.
abbrev pub IsFreeText : List ℕ → Type 0
IsFreeText text = All IsNoSeparator text

-- The text can be that of a field: it has no bar and no newline.
abbrev pub IsFieldText : List ℕ → Type 0
IsFieldText text = All EndsNoField text

-- The key of the tag, if it has one, and its text have no separator.
pub record IsFreeTag (tag : Tag) : Type 0 where
  pub key : IfSome tag.key IsFreeText
  pub text : IsFreeText tag.text

-- No text of the metric has a separator: neither the name nor the tags nor the container id nor the external data.
pub record IsFreeOfSeparators (metric : Metric) : Type 0 where
  pub name : IsFreeText metric.name
  pub tags : All IsFreeTag metric.tags
  pub container : IfSome metric.container IsFreeText
  pub external : IfSome metric.enrichment.external IsFreeText

-- The text has no separator but colons. So it can follow the key of a tag, because the first colon of a tag ends the key.
abbrev pub IsFreeAfterKey : List ℕ → Type 0
IsFreeAfterKey text = All IsNoTagEnd text

-- The text of a tag can follow its key: if there is a key, the text has no separator but colons, and otherwise none.
abbrev pub IsClearAfter : Option (List ℕ) → List ℕ → Type 0
IsClearAfter None text = IsFreeText text
IsClearAfter (Some key) text = IsFreeAfterKey text

-- The tag is clear: its key, if it has one, has no separator, and its text can follow the key.
pub record IsClearTag (tag : Tag) : Type 0 where
  pub key : IfSome tag.key IsFreeText
  pub text : IsClearAfter tag.key tag.text

-- The metric is clear: its name and its container id have no separator, each of its tags is clear, and its external data
-- can be the text of a field.
pub record IsClear (metric : Metric) : Type 0 where
  pub name : IsFreeText metric.name
  pub tags : All IsClearTag metric.tags
  pub container : IfSome metric.container IsFreeText
  pub external : IfSome metric.enrichment.external IsFieldText

-- the lines of the metrics, each with a newline after it
abbrev pub lines_of : List Metric → List ℕ
lines_of metrics = flat_map (λ metric. line_of metric ++ codes "\n") metrics

-- The packet is the metrics' lines, each with a newline after it, or the line of a single metric without a newline.
abbrev pub IsPacketOf : List Metric → List ℕ → Type 0
IsPacketOf metrics packet = (packet ≡ lines_of metrics) ⊎ ((metric : Metric) × (metrics ≡ metric ∷ []) × (packet ≡ line_of metric))
