-- The line of a call that was tested.
use Rattle.std.specs.Prelude.{◌≡◌, ℕ, List, []}
use Rattle.cadence_text.specs.Line.{line_with}
use Rattle.cadence_settings.specs.Call.{metric_of_call, plain_call}
use Rattle.cadence_settings.specs.Settings.{Settings}
use Rattle.cadence_host.specs.Calls.{with_options}
use Rattle.cadence_host.specs.Texts.{HasTextsOf}
use Rattle.cadence_host.specs.declared.call.COptions.{COptions}
use Rattle.cadence_host.specs.declared.line.TestedCall.{TestedCall}

-- For all settings that have the texts of the tested call, this is its line if its line has this key and its value has
-- this text. The texts of the options are cleaned if the call says so.
abbrev pub IsLineOfTested : TestedCall → List ℕ → List ℕ → COptions → List ℕ → Type 0
IsLineOfTested call key value o line =
    (s : Settings) → HasTextsOf call.texts s
    → line ≡ line_with value (with_options call.is_cleaned (metric_of_call s (plain_call call.kind key [])) o call.rate)
