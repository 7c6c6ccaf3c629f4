-- The texts between the separators of a line.
use Rattle.std.specs.Prelude.{◌≡◌, ◌≢◌, ℕ, ◌==◌, Option, Some, None, List, [], ◌∷◌, ◌++◌, All, codes}
use Rattle.std.specs.List.{slice_split}
use Rattle.std.specs.Option.{option_map, option_copied}
use Rattle.cadence_text.specs.Line.{kind_text, tag_text}
use Rattle.cadence_text.specs.Metric.{Metric, Tag}
use Rattle.cadence_value.specs.Finds.{Finds}
use Rattle.cadence_value.specs.Number.{decimal_text, number_text, joined_texts, numbers_text}
use Rattle.cadence_read.specs.declared.splitting.TextsOfLine.{TextsOfLine}

-- the texts of a line's fields, each without the mark that begins its field
pub record LineTexts : Type 0 where
  pub name : List ℕ
  pub numbers : List ℕ
  pub kind : List ℕ
  pub rate : Option (List ℕ)
  pub tags : Option (List ℕ)
  pub container : Option (List ℕ)
  pub time : Option (List ℕ)

-- the text of the tags, with a comma between each two, or none if there are no tags
abbrev pub tags_text : List Tag → Option (List ℕ)
tags_text [] = None
tags_text (tag ∷ tags) = Some (joined_texts (codes ",") tag_text (tag ∷ tags))

-- the texts of a metric's fields
abbrev pub field_texts : Metric → LineTexts
field_texts m = record {
  name = m.name;
  numbers = numbers_text m.numbers;
  kind = kind_text m.kind;
  rate = option_map number_text m.rate;
  tags = tags_text m.tags;
  container = m.container;
  time = option_map decimal_text m.time;
}

-- the part of a line that an optional field makes: its mark and its text, or no part if the line doesn't have the field
abbrev pub field_part : List ℕ → Option (List ℕ) → List (List ℕ)
field_part mark None = []
field_part mark (Some text) = (mark ++ text) ∷ []

-- the parts of a line after the kind
abbrev pub field_parts : LineTexts → List (List ℕ)
field_parts t =
    field_part (codes "@") t.rate ++ (field_part (codes "#") t.tags ++ (field_part (codes "c:") t.container ++ field_part (codes "T") t.time))

-- the parts of a line between its bars
abbrev pub parts_of_texts : LineTexts → List (List ℕ)
parts_of_texts t = (t.name ++ (codes ":" ++ t.numbers)) ∷ t.kind ∷ field_parts t

-- If texts were found, they make these parts, and the name has no colon. If none were, no texts with such a name do.
abbrev pub FindsTexts : List (List ℕ) → Option LineTexts → Type 0
FindsTexts parts result = Finds (λ texts. All (λ byte. byte ≢ 58) texts.name × (parts_of_texts texts ≡ parts)) result

-- the pieces, split at each mark, of the text that is left, or none if no text is left
abbrev pub pieces_left : ℕ → Option (List ℕ) → List (List ℕ)
pieces_left mark None = []
pieces_left mark (Some text) = slice_split (λ byte. byte == mark) text

-- If the first part begins with the mark, the text is the rest of that part, and the parts after it are left. Otherwise
-- there is no text, and all parts are left.
abbrev pub IsMarked : List ℕ → List (List ℕ) → Option (List ℕ) → List (List ℕ) → Type 0
IsMarked mark parts (Some text) rest = parts ≡ (mark ++ text) ∷ rest
IsMarked mark parts None rest = (rest ≡ parts) × ((text : List ℕ) (more : List (List ℕ)) → parts ≡ (mark ++ text) ∷ more → ⊥)

-- the texts that `split_fields` split from a line
abbrev pub line_texts : TextsOfLine → LineTexts
line_texts t = record {
  name = t.name.now;
  numbers = t.numbers.now;
  kind = t.kind.now;
  rate = option_copied t.rate;
  tags = option_copied t.tags;
  container = option_copied t.container;
  time = option_copied t.time;
}

-- the texts of a line without optional fields
abbrev pub plain_line_texts : List ℕ → List ℕ → List ℕ → LineTexts
plain_line_texts name numbers kind = record { name = name; numbers = numbers; kind = kind; rate = None; tags = None; container = None; time = None }
