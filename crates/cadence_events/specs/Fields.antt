-- The optional fields that events and service checks share.
use Rattle.std.specs.Prelude.{ℕ, Option, None, Some, List, [], ◌∷◌, ◌++◌, codes}
use Rattle.cadence_text.specs.Draft.{has_text, lead}
use Rattle.cadence_text.specs.Line.{tag_text}
use Rattle.cadence_text.specs.Metric.{Tag}
use Rattle.cadence_value.specs.Number.{decimal_text, joined_texts}

-- a field: the bytes with which it begins and its text, or nothing if there is no text
abbrev pub field : List ℕ → Option (List ℕ) → List ℕ
field lead None = []
field lead (Some text) = lead ++ text

-- the field of a time in seconds since 1970, as `|d:1656581400`
abbrev pub seconds_field : Option ℕ → List ℕ
seconds_field None = []
seconds_field (Some time) = codes "|d:" ++ decimal_text time

-- the field of tags that come after other tags, whose field is this text
abbrev pub tags_after : List ℕ → List Tag → List ℕ
tags_after text [] = text
tags_after text (tag ∷ tags) = text ++ (lead (has_text text) ++ joined_texts (codes ",") tag_text (tag ∷ tags))
