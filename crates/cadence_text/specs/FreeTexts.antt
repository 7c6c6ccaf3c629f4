-- Whether texts have a separator, and whether tags are clear, as tests. The law `ClearTextsPass` says that the tests are
-- the facts `IsFreeText` and `IsClearTag`.
use Rattle.std.specs.Prelude.{ℕ, Bool, true, not, ◌&&◌, ◌==◌, Option, Some, None, List}
use Rattle.std.specs.List.{list_all}
use Rattle.cadence_text.specs.Metric.{Tag}

-- whether the byte is none of the separators `:`, `,`, `|` and newline
unfoldable pub is_no_separator : ℕ → Bool
is_no_separator byte = not (byte == 58) && (not (byte == 44) && (not (byte == 124) && not (byte == 10)))

-- whether the text has no separator
unfoldable pub is_free_text : List ℕ → Bool
is_free_text text = list_all is_no_separator text

-- whether the text has no separator, if there is a text
abbrev pub is_free_if_any : Option (List ℕ) → Bool
is_free_if_any None = true
is_free_if_any (Some text) = is_free_text text

-- whether the byte doesn't end a tag: it is neither a comma nor a bar nor a newline
unfoldable pub is_no_tag_end : ℕ → Bool
is_no_tag_end byte = not (byte == 44) && (not (byte == 124) && not (byte == 10))

-- whether the text has no separator but colons, so that it can follow the key of a tag
unfoldable pub is_free_after_key : List ℕ → Bool
is_free_after_key text = list_all is_no_tag_end text

-- whether the byte ends no field: it is neither a bar nor a newline
unfoldable pub ends_no_field : ℕ → Bool
ends_no_field byte = not (byte == 124) && not (byte == 10)

-- whether the text can be that of a field: it has no bar and no newline
unfoldable pub is_field_text : List ℕ → Bool
is_field_text text = list_all ends_no_field text

-- whether the text can be that of a field, if there is a text
abbrev pub is_field_if_any : Option (List ℕ) → Bool
is_field_if_any None = true
is_field_if_any (Some text) = is_field_text text

-- whether the text can follow the key of a tag or, if there is no key, can be a tag
abbrev pub is_clear_after : Option (List ℕ) → List ℕ → Bool
is_clear_after None text = is_free_text text
is_clear_after (Some key) text = is_free_after_key text

-- whether the tag is clear: its key has no separator, and its text has none, or with a key none but colons
abbrev pub is_clear_tag : Tag → Bool
is_clear_tag tag = is_free_if_any tag.key && is_clear_after tag.key tag.text
