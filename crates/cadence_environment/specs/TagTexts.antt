-- The tags that the variables of the environment say.
use Rattle.std.specs.Prelude.{◌==◌, ◌&&◌, ◌||◌, ℕ, Bool, true, false, cond, Option, None, Some, List, [], ◌∷◌, ◌++◌, codes, reverse, take, drop, ◌+◌}
use Rattle.std.specs.List.{flat_map, list_any, slice_split, position}
use Rattle.std.specs.Str.{bytes_eq}
use Rattle.cadence_text.specs.Metric.{Tag, keyed, unkeyed}
use Rattle.cadence_environment.specs.declared.variables.Variables.{Variables}

-- whether a text has some byte
abbrev pub has_bytes : List ℕ → Bool
has_bytes [] = false
has_bytes (c ∷ cs) = true

-- the text without the spaces at its front
abbrev pub without_front : List ℕ → List ℕ
without_front [] = []
without_front (c ∷ cs) = cond (c == 32) (without_front cs) (c ∷ cs)

-- the text without the spaces at its end
abbrev pub without_end : List ℕ → List ℕ
without_end text = reverse (without_front (reverse text))

-- the text without the spaces at its front and its end
abbrev pub trimmed : List ℕ → List ℕ
trimmed text = without_end (without_front text)

-- the pieces of a text: those between its commas, or those between its spaces if it has no comma
abbrev pub pieces_of : List ℕ → List (List ℕ)
pieces_of text = cond (list_any (λ b. b == 44) text) (slice_split (λ b. b == 44) text) (slice_split (λ b. b == 32) text)

-- the tag that a text says if it is split at this place: a key and a text, or a text alone
abbrev pub tag_split_at : List ℕ → Option ℕ → Tag
tag_split_at text None = unkeyed text
tag_split_at text (Some place) = keyed (take place text) (drop (place + 1) text)

-- the tag that a text says: it is split at its first colon
abbrev pub tag_of_text : List ℕ → Tag
tag_of_text text = tag_split_at text (position (λ b. b == 58) text)

-- whether the tag of this key has a variable of its own that is set
abbrev pub is_overridden : Variables → Option (List ℕ) → Bool
is_overridden v None = false
is_overridden v (Some key) =
    (bytes_eq key (codes "env") && has_bytes v.env.now) || ((bytes_eq key (codes "service") && has_bytes v.service.now)
    || (bytes_eq key (codes "version") && has_bytes v.version.now))

-- the tags of a text without spaces round it: none if it is empty, or if the tag has a variable of its own that is set
abbrev pub listed_tags : Variables → List ℕ → List Tag
listed_tags v [] = []
listed_tags v (c ∷ cs) = cond (is_overridden v (tag_of_text (c ∷ cs)).key) [] (tag_of_text (c ∷ cs) ∷ [])

-- the tags of a piece of `DD_TAGS`
abbrev pub piece_tags : Variables → List ℕ → List Tag
piece_tags v piece = listed_tags v (trimmed piece)

-- the tag of a variable of its own, if the variable is set: its text is the text of the tag
abbrev pub own_tag : List ℕ → List ℕ → List Tag
own_tag key [] = []
own_tag key (c ∷ cs) = keyed key (c ∷ cs) ∷ []

-- the tags that the variables say, in order
abbrev pub tags_said : Variables → List Tag
tags_said v =
    own_tag (codes "env") v.env.now ++ (own_tag (codes "service") v.service.now ++ (own_tag (codes "version") v.version.now
    ++ (flat_map (piece_tags v) (pieces_of v.tags.now) ++ own_tag (codes "dd.internal.entity_id") v.entity_id.now)))
