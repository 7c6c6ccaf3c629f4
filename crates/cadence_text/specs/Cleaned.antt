-- Cleaned texts: each separator that could end a text early in a line is an underscore instead.
use Rattle.std.specs.Prelude.{◌≡◌, ℕ, Bool, true, false, if◌then◌else◌, Option, Some, None, List, map, IsTrue}
use Rattle.std.specs.Option.{option_map}
use Rattle.cadence_text.specs.Metric.{Tag}
use Rattle.cadence_text.specs.FreeTexts.{is_clear_tag, is_free_text, is_no_separator, is_no_tag_end}

-- whether the byte stays. If the text follows the key of a tag (`true`), colons stay too.
abbrev pub stays : Bool → ℕ → Bool
stays true byte = is_no_tag_end byte
stays false byte = is_no_separator byte

-- the byte, or an underscore (95) in its place
unfoldable pub cleaned_byte : Bool → ℕ → ℕ
cleaned_byte after_key byte = if stays after_key byte then byte else 95

-- the text with an underscore in place of each separator; with those of a text that follows the key of a tag (`true`)
unfoldable pub cleaned_text : Bool → List ℕ → List ℕ
cleaned_text after_key text = map (cleaned_byte after_key) text

-- whether there is a key
abbrev pub has_key : Option (List ℕ) → Bool
has_key None = false
has_key (Some key) = true

-- the tag with cleaned texts
abbrev pub cleaned_tag : Tag → Tag
cleaned_tag tag = record { key = option_map (cleaned_text false) tag.key; text = cleaned_text (has_key tag.key) tag.text }

-- the tag as it is, or the cleaned one (`true`)
abbrev pub tag_as : Bool → Tag → Tag
tag_as true tag = cleaned_tag tag
tag_as false tag = tag

-- the text as it is, or the cleaned one (`true`)
abbrev pub text_as : Bool → List ℕ → List ℕ
text_as is_cleaned text = if is_cleaned then cleaned_text false text else text

-- the container id as it is, or the cleaned one (`true`), if there is one
abbrev pub container_as : Bool → Option (List ℕ) → Option (List ℕ)
container_as true container = option_map (cleaned_text false) container
container_as false container = container

-- Cleaned texts and tags pass the tests for separators, and what passes a test stays as it is.
pub record CleanedTextsAreClear : Type 0 where
  pub text : (text : List ℕ) → IsTrue (is_free_text (cleaned_text false text))
  pub same_text : (text : List ℕ) → IsTrue (is_free_text text) → cleaned_text false text ≡ text
  pub tag : (tag : Tag) → IsTrue (is_clear_tag (cleaned_tag tag))
  pub same_tag : (tag : Tag) → IsTrue (is_clear_tag tag) → cleaned_tag tag ≡ tag
