-- The texts that settings keep, and the key that a line has.
use Rattle.std.specs.Prelude.{ℕ, Bool, if◌then◌else◌, List, string_bytes}
use Rattle.cadence_text.specs.Cleaned.{cleaned_text}
use Rattle.cadence_settings.specs.declared.settings.cleaning.KeyText.{KeyText}
use Rattle.cadence_settings.specs.declared.settings.cleaning.KeyText.TheVariants.{Given, Cleaned}
use Rattle.cadence_settings.specs.Settings.{Settings}

-- what the settings keep of a text, which follows the key of a tag if the flag is true
abbrev pub kept_text : Settings → Bool → List ℕ → List ℕ
kept_text s after_key text = if s.cleaned then cleaned_text after_key text else text

-- the text of a key
abbrev pub key_text : {Z : Type 0} → KeyText Z → List ℕ
key_text (Given text) = text.now
key_text (Cleaned text) = string_bytes text
