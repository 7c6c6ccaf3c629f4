-- Cleaned texts: they are in UTF-8 if the texts are, have the same length, pass the tests for separators, and are the
-- texts themselves if those pass.
use Rattle.std.proofs.Common.{◌≡◌, ◌∙◌, ℕ, ◌<◌, ◌≤◌, List, [], ◌∷◌, ◌++◌, length, map, take, drop, ap, ap₂, refl, arith}
use Rattle.std.proofs.Common.{Bool, true, false, Option, Some, None, cond}
use Rattle.std.specs.Prelude.{IsUtf8}
use Rattle.std.specs.List.{list_all}
use Rattle.std.specs.Option.{option_map}
use Rattle.std.proofs.lemmas.Bool.{and_from, and_parts}
use Rattle.std.proofs.lemmas.List.{append-nil, drop_all, length-map, take_all}
use Rattle.std_alloc.proofs.string.Cased.{changed}
use Rattle.cadence_text.specs.Cleaned.{cleaned_byte, cleaned_tag, cleaned_text, has_key, stays}
use Rattle.cadence_text.specs.FreeTexts.{is_clear_tag, is_free_after_key, is_free_text, is_no_separator, is_no_tag_end}
use Rattle.cadence_text.proofs.grammar.FreeTexts.{no_separator_from, no_tag_end_from}
use Rattle.cadence_text.specs.Metric.{Tag}

-- A byte that isn't ASCII is no separator.
high_stays : (after_key : Bool) (b : ℕ) → 128 ≤ b → stays after_key b ≡ true
high_stays true b h = no_tag_end_from b ((λ e. omega (arith, e, h)), (λ e. omega (arith, e, h)), λ e. omega (arith, e, h))
high_stays false b h =
    no_separator_from b ((λ e. omega (arith, e, h)), (λ e. omega (arith, e, h)), (λ e. omega (arith, e, h)), λ e. omega (arith, e, h))

high_byte : (after_key : Bool) (b : ℕ) → 128 ≤ b → cleaned_byte after_key b ≡ b
unfolding cleaned_byte
high_byte after_key b h = ap (λ s. cond s b 95) (high_stays after_key b h)

low_choice : (s : Bool) (b : ℕ) → b < 128 → cond s b 95 < 128
low_choice true b h = h
low_choice false b h = omega arith

low_byte : (after_key : Bool) (b : ℕ) → b < 128 → cleaned_byte after_key b < 128
unfolding cleaned_byte
low_byte after_key b h = low_choice (stays after_key b) b h

pub cleaned_utf8 : (after_key : Bool) (text : List ℕ) → IsUtf8 text → IsUtf8 (map (cleaned_byte after_key) text)
cleaned_utf8 after_key text h = changed (cleaned_byte after_key) (low_byte after_key) (high_byte after_key) text h

pub cleaned_length : (after_key : Bool) (text : List ℕ) → length (cleaned_text after_key text) ≡ length text
unfolding cleaned_text
cleaned_length after_key text = length-map text (cleaned_byte after_key)

-- An underscore is no separator.
underscore_stays : (after_key : Bool) → stays after_key 95 ≡ true
unfolding is_no_separator is_no_tag_end
underscore_stays true = refl
underscore_stays false = refl

choice_passes : (after_key s : Bool) (b : ℕ) → stays after_key b ≡ s → stays after_key (cond s b 95) ≡ true
choice_passes after_key true b e = e
choice_passes after_key false b e = underscore_stays after_key

byte_passes : (after_key : Bool) (b : ℕ) → stays after_key (cleaned_byte after_key b) ≡ true
unfolding cleaned_byte
byte_passes after_key b = choice_passes after_key (stays after_key b) b refl

all_pass : (after_key : Bool) (text : List ℕ) → list_all (stays after_key) (map (cleaned_byte after_key) text) ≡ true
all_pass after_key [] = refl
all_pass after_key (b ∷ text) =
    and_from (stays after_key (cleaned_byte after_key b)) (list_all (stays after_key) (map (cleaned_byte after_key) text))
    (byte_passes after_key b) (all_pass after_key text)

byte_same : (after_key : Bool) (b : ℕ) → stays after_key b ≡ true → cleaned_byte after_key b ≡ b
unfolding cleaned_byte
byte_same after_key b e = ap (λ s. cond s b 95) e

all_same : (after_key : Bool) (text : List ℕ) → list_all (stays after_key) text ≡ true → map (cleaned_byte after_key) text ≡ text
all_same after_key [] h = refl
all_same after_key (b ∷ text) h =
    let (first, rest) = and_parts (stays after_key b) (list_all (stays after_key) text) h in
    ap₂ (λ x xs. x ∷ xs) (byte_same after_key b first) (all_same after_key text rest)

pub text_passes : (text : List ℕ) → is_free_text (cleaned_text false text) ≡ true
unfolding cleaned_text is_free_text
text_passes text = all_pass false text

pub text_same : (text : List ℕ) → is_free_text text ≡ true → cleaned_text false text ≡ text
unfolding cleaned_text is_free_text
text_same text h = all_same false text h

value_passes : (text : List ℕ) → is_free_after_key (cleaned_text true text) ≡ true
unfolding cleaned_text is_free_after_key
value_passes text = all_pass true text

value_same : (text : List ℕ) → is_free_after_key text ≡ true → cleaned_text true text ≡ text
unfolding cleaned_text is_free_after_key
value_same text h = all_same true text h

passes : (key : Option (List ℕ)) (text : List ℕ)
    → is_clear_tag (record { key = option_map (cleaned_text false) key; text = cleaned_text (has_key key) text }) ≡ true
passes None text = text_passes text
passes (Some key) text =
    and_from (is_free_text (cleaned_text false key)) (is_free_after_key (cleaned_text true text)) (text_passes key) (value_passes text)

pub tag_passes : (tag : Tag) → is_clear_tag (cleaned_tag tag) ≡ true
tag_passes tag = passes tag.key tag.text

key_same : (key : Option (List ℕ)) (text : List ℕ) → is_clear_tag (record { key = key; text = text }) ≡ true
    → (option_map (cleaned_text false) key ≡ key) × (cleaned_text (has_key key) text ≡ text)
key_same None text h = (refl, text_same text h)
key_same (Some key) text h =
    let (first, rest) = and_parts (is_free_text key) (is_free_after_key text) h in
    (ap Some (text_same key first), value_same text rest)

pub tag_same : (tag : Tag) → is_clear_tag tag ≡ true → cleaned_tag tag ≡ tag
tag_same tag h =
    let (key, text) = key_same tag.key tag.text h in
    λ i. record { key = key i; text = text i }

pub zero_stays : (after_key : Bool) → cleaned_byte after_key 0 ≡ 0
unfolding cleaned_byte is_no_separator is_no_tag_end
zero_stays true = refl
zero_stays false = refl

-- What is left of a text after all of its bytes were written.
pub all_written : (n : ℕ) (new items : List ℕ) → length new ≡ length items → n ≡ length items
    → take n (new ++ drop (length new) items) ≡ new
all_written n new items same all =
    ap (λ rest. take n (new ++ rest)) (drop_all (length new) items (omega (arith, same))) ∙ ap (take n) (append-nil new)
    ∙ take_all n new (omega (arith, same, all))

pub cleaned_text_utf8 : (after_key : Bool) (text : List ℕ) → IsUtf8 text → IsUtf8 (cleaned_text after_key text)
unfolding cleaned_text
cleaned_text_utf8 after_key text h = cleaned_utf8 after_key text h
