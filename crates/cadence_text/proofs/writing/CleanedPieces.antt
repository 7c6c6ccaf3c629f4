-- Cleaned tags and containers have the length of those that they are made of, and are in UTF-8 too.
use Rattle.std.proofs.Common.{◌≡◌, ℕ, List, length, length-append, arith, refl}
use Rattle.std.proofs.Common.{Bool, true, false, Option, Some, None}
use Rattle.std.specs.Option.{option_map}
use Rattle.std.specs.Prelude.{IfSome, IsUtf8, codes}
use Rattle.cadence_text.specs.Cleaned.{cleaned_text, container_as, has_key, tag_as, text_as}
use Rattle.cadence_text.specs.Line.{container_field, key_text, tag_text}
use Rattle.cadence_text.specs.Metric.{Tag}
use Rattle.cadence_text.specs.MetricInMemory.{IsTagInMemory, IsTextInMemory}
use Rattle.cadence_text.proofs.grammar.Cleaned.{cleaned_length, cleaned_text_utf8}

text_in_memory : (after_key : Bool) (text : List ℕ) → IsTextInMemory text → IsTextInMemory (cleaned_text after_key text)
text_in_memory after_key text h = (omega (arith, cleaned_length after_key text, h.0), cleaned_text_utf8 after_key text h.1)

key_in_memory : (key : Option (List ℕ)) → IfSome key IsTextInMemory → IfSome (option_map (cleaned_text false) key) IsTextInMemory
key_in_memory None h = tt
key_in_memory (Some key) h = text_in_memory false key h

pub tag_in_memory : (is_cleaned : Bool) (tag : Tag) → IsTagInMemory tag → IsTagInMemory (tag_as is_cleaned tag)
tag_in_memory false tag h = h
tag_in_memory true tag h = record { key = key_in_memory tag.key h.key; text = text_in_memory (has_key tag.key) tag.text h.text }

key_length : (key : Option (List ℕ)) → length (key_text (option_map (cleaned_text false) key)) ≡ length (key_text key)
key_length None = refl
key_length (Some key) =
    omega (arith, cleaned_length false key, length-append key (codes ":"), length-append (cleaned_text false key) (codes ":"))

pub tag_length : (is_cleaned : Bool) (tag : Tag) → length (tag_text (tag_as is_cleaned tag)) ≡ length (tag_text tag)
tag_length false tag = refl
tag_length true tag =
    omega (
      arith,
      key_length tag.key,
      cleaned_length (has_key tag.key) tag.text,
      length-append (key_text tag.key) tag.text,
      length-append (key_text (option_map (cleaned_text false) tag.key)) (cleaned_text (has_key tag.key) tag.text),
    )

pub container_length : (is_cleaned : Bool) (container : Option (List ℕ))
    → length (container_field (container_as is_cleaned container)) ≡ length (container_field container)
container_length false container = refl
container_length true None = refl
container_length true (Some container) = omega (arith, cleaned_length false container)

pub contained_as : (is_cleaned : Bool) (container : List ℕ) → container_as is_cleaned (Some container) ≡ Some (text_as is_cleaned container)
contained_as false container = refl
contained_as true container = refl

pub text_as_utf8 : (is_cleaned : Bool) (text : List ℕ) → IsUtf8 text → IsUtf8 (text_as is_cleaned text)
text_as_utf8 false text h = h
text_as_utf8 true text h = cleaned_text_utf8 false text h
