-- What a contract sees of a client's settings.
use Rattle.std.specs.Prelude.{◌≡◌, ◌||◌, IsTrue, map, string_bytes}
use Rattle.std.specs.Option.{option_map}
use Rattle.cadence_text.specs.FreeTexts.{is_field_if_any}
use Rattle.cadence_text.specs.Line.{tags_field}
use Rattle.cadence_text.specs.Owned.{tag_of_owned}
use Rattle.cadence_settings.specs.declared.settings.ClientSettings.TheInside.{Inside}
use Rattle.cadence_settings.specs.Settings.{Settings, is_clear_settings}

-- the settings, from the fields of the Rust struct
abbrev pub settings_seen : {Z : Type 0} → Inside Z → Settings
settings_seen s = record {
  prefix = string_bytes s.prefix;
  tags = map tag_of_owned s.tags.items;
  container = option_map string_bytes s.container;
  enrichment = record { external = option_map string_bytes s.external; cardinality = s.cardinality };
  strict = s.strict;
  cleaned = s.cleaned;
}

-- What is true of the fields: the text of the tags is that of the default tags, the external data can be the text of a
-- field, and if the settings are strict or clean texts, they are clear.
pub record IsInOrder {Z : Type 0} (s : Inside Z) : Type 0 where
  pub text : s.text ≡ tags_field (map tag_of_owned s.tags.items)
  pub external : IsTrue (is_field_if_any (option_map string_bytes s.external))
  pub clear : IsTrue (s.strict || s.cleaned) → IsTrue (is_clear_settings (settings_seen s))
