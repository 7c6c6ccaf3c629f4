-- The settings of a client: what it adds to each call.
use Rattle.std.specs.Prelude.{◌≡◌, ℕ, ◌==◌, if◌then◌else◌, Option, None, Some, List, [], ◌∷◌, ◌++◌, codes, map}
use Rattle.std.specs.Prelude.{Bool, true, false, not, ◌&&◌, ◌||◌}
use Rattle.std.specs.List.{list_all}
use Rattle.cadence_errors.specs.Errors.{IsDescribed, out_of_memory}
use Rattle.cadence_errors.specs.declared.ErrorKind.TheVariants.{InvalidInput}
use Rattle.cadence_errors.specs.declared.MetricError.{MetricError}
use Rattle.cadence_text.specs.declared.line.enrichment.Cardinality.{Cardinality}
use Rattle.cadence_text.specs.Metric.{Enrichment, Tag, no_enrichment}
use Rattle.cadence_text.specs.Cleaned.{cleaned_tag, cleaned_text, container_as, tag_as, text_as}
use Rattle.cadence_text.specs.FreeTexts.{is_field_if_any, is_free_text, is_free_if_any, is_clear_tag}

-- the prefix as each line begins with it, the default tags in their order, the default container, the external data and
-- the default cardinality, whether the settings are strict, and whether they clean texts: strict settings refuse each text that has a separator, and settings that clean
-- texts put an underscore in its place
pub record Settings : Type 0 where
  pub prefix : List ℕ
  pub tags : List Tag
  pub container : Option (List ℕ)
  pub enrichment : Enrichment
  pub strict : Bool
  pub cleaned : Bool

-- the byte `c` put before a text without trailing dots, unless the text is empty and the byte is a dot (46)
abbrev pub before_kept : ℕ → List ℕ → List ℕ
before_kept c [] = if c == 46 then [] else c ∷ []
before_kept c (x ∷ xs) = c ∷ x ∷ xs

-- the text without its trailing dots
abbrev pub without_dots : List ℕ → List ℕ
without_dots [] = []
without_dots (c ∷ cs) = before_kept c (without_dots cs)

-- what each line of a client begins with: nothing if the prefix is empty; otherwise the prefix without its trailing
-- dots, and then one dot
abbrev pub client_prefix : List ℕ → List ℕ
client_prefix [] = []
client_prefix (c ∷ cs) = without_dots (c ∷ cs) ++ codes "."

-- settings with this prefix, without defaults, which take all texts as they are
abbrev pub settings_of : List ℕ → Settings
settings_of prefix = record {
  prefix = client_prefix prefix;
  tags = [];
  container = None;
  enrichment = no_enrichment;
  strict = false;
  cleaned = false;
}

-- the settings with one more default tag, at the end, which is cleaned if the settings clean texts
abbrev pub with_default_tag : Settings → Tag → Settings
with_default_tag s tag = record s { tags = s.tags ++ tag_as s.cleaned tag ∷ [] }

-- the settings with this default container, which is cleaned if the settings clean texts
abbrev pub with_default_container : Settings → List ℕ → Settings
with_default_container s container = record s { container = Some (text_as s.cleaned container) }

-- the settings with these external data
abbrev pub with_external : Settings → List ℕ → Settings
with_external s external = record s { enrichment = record s.enrichment { external = Some external } }

-- the settings with this default cardinality
abbrev pub with_default_cardinality : Settings → Cardinality → Settings
with_default_cardinality s cardinality = record s { enrichment = record s.enrichment { cardinality = Some cardinality } }

-- the settings as strict ones
abbrev pub with_strict_texts : Settings → Settings
with_strict_texts s = record s { strict = true; cleaned = false }

-- the settings as ones that clean texts, with their own texts cleaned
abbrev pub with_cleaned_texts : Settings → Settings
with_cleaned_texts s = record {
  prefix = cleaned_text false s.prefix;
  tags = map cleaned_tag s.tags;
  container = container_as true s.container;
  enrichment = s.enrichment;
  strict = false;
  cleaned = true;
}

-- whether the settings are clear: neither the prefix nor the default container has a separator, each default tag is
-- clear, and the external data can be the text of a field
abbrev pub is_clear_settings : Settings → Bool
is_clear_settings s =
    is_free_text s.prefix && (list_all is_clear_tag s.tags && (is_free_if_any s.container && is_field_if_any s.enrichment.external))

-- whether no separator comes from a call into its line: strict settings refuse it, and others may clean the text
abbrev pub clears_texts : Settings → Bool
clears_texts s = s.strict || s.cleaned

-- whether the settings allow the text: each text, or if they are strict, each text without a separator
abbrev pub allows_text : Settings → List ℕ → Bool
allows_text s text = not s.strict || is_free_text text

-- whether the settings allow the tag: each tag, or if they are strict, each clear tag
abbrev pub allows_tag : Settings → Tag → Bool
allows_tag s tag = not s.strict || is_clear_tag tag

-- what the error of a call says if a text has a separator
abbrev pub separator_text : List ℕ
separator_text = codes "separator in a text"

-- The error says that a text has a separator.
abbrev pub HasSeparator : MetricError → Type 0
HasSeparator e = IsDescribed InvalidInput separator_text e

-- The error says why a text was not taken: memory ran out if the text is allowed (`true`), and otherwise the text has a
-- separator.
abbrev pub FailsFor : Bool → MetricError → Type 0
FailsFor true e = e ≡ out_of_memory
FailsFor false e = HasSeparator e
