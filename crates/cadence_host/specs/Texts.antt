-- Settings as texts that the host keeps.
use Rattle.std.specs.Prelude.{◌≡◌, ℕ, List, [], ◌∷◌, map, Bool, true, Option, Some, None, if◌then◌else◌, not, ◌||◌}
use Rattle.std.specs.List.{list_all}
use Rattle.std.specs.Option.{option_copied}
use Rattle.std.specs.Str.{IsUtf8}
use Rattle.cadence_text.specs.Line.{tags_field}
use Rattle.cadence_text.specs.FreeTexts.{is_clear_tag, is_free_text}
use Rattle.cadence_settings.specs.Settings.{Settings, client_prefix}
use Rattle.cadence_host.specs.Calls.{AreCardinalities, IsLineOfCall, c_tag, cardinality_named, is_clear_call_of_c}
use Rattle.cadence_host.specs.declared.call.COptions.{COptions}
use Rattle.cadence_host.specs.declared.call.CTag.{CTag}
use Rattle.cadence_host.specs.declared.settings.CSettings.{CSettings}
use Rattle.cadence_host.specs.declared.settings.Texts.{Texts}

-- the default container of settings, if they have one
abbrev pub container_of : CSettings → Option (List ℕ)
container_of c = if c.contained then Some c.container.now else None

-- the text, or none if it is empty
abbrev pub text_if_any : List ℕ → Option (List ℕ)
text_if_any [] = None
text_if_any (x ∷ xs) = Some (x ∷ xs)

-- The texts of C are those of these settings, and so is the cardinality.
pub record AreTextsOf (c : CSettings) (s : Settings) : Type 0 where
  pub prefix : c.prefix.now ≡ s.prefix
  pub tags : c.tags.now ≡ tags_field s.tags
  pub container : container_of c ≡ s.container
  pub external : text_if_any c.external.now ≡ s.enrichment.external
  pub cardinality : cardinality_named c.cardinality ≡ s.enrichment.cardinality
  pub strict : c.strict ≡ s.strict
  pub cleaned : c.cleaned ≡ s.cleaned

-- The texts are UTF-8.
pub record IsUtf8Settings (c : CSettings) : Type 0 where
  pub prefix : IsUtf8 c.prefix.now
  pub tags : IsUtf8 c.tags.now
  pub container : c.contained ≡ true → IsUtf8 c.container.now
  pub external : IsUtf8 c.external.now

-- The texts that were read are those of these settings, and so is the cardinality.
pub record HasTextsOf (t : Texts) (s : Settings) : Type 0 where
  pub prefix : t.prefix.now ≡ s.prefix
  pub tags : t.tags.now ≡ tags_field s.tags
  pub container : option_copied t.container ≡ s.container
  pub external : option_copied t.enrichment.external ≡ s.enrichment.external
  pub cardinality : t.enrichment.cardinality ≡ s.enrichment.cardinality

-- whether settings allow the texts of a call: all texts, or if they are strict, those of a clear call
abbrev pub allows_c_call : Bool → List ℕ → COptions → Bool
allows_c_call strict key o = not strict || is_clear_call_of_c key o

-- whether settings allow a prefix: any prefix, or if they are strict, one without a separator
abbrev pub allows_prefix : Bool → List ℕ → Bool
allows_prefix strict prefix = not strict || is_free_text (client_prefix prefix)

-- whether settings allow these default tags: all tags, or if the settings are strict, clear ones
abbrev pub allows_tags : Bool → List CTag → Bool
allows_tags strict tags = not strict || list_all is_clear_tag (map c_tag tags)

-- For all settings that have these texts, this is the line of the call whose value has this text. The cardinalities of the
-- settings and of the call are known.
pub record IsLineWith (c : CSettings) (k : ℕ) (key value : List ℕ) (o : COptions) (line : List ℕ) : Type 0 where
  pub cardinalities : AreCardinalities c o
  pub meant : (s : Settings) → AreTextsOf c s → IsLineOfCall s k key value o line
