-- Contexts of calls that make no line.
use Rattle.std.specs.Prelude.{◌≡◌, ◌⊎◌, ℕ, Bool, false, List, [], ◌∷◌, None, map, pos}
use Rattle.cadence_errors.specs.Errors.{out_of_memory}
use Rattle.cadence_errors.specs.declared.MetricError.{MetricError}
use Rattle.cadence_settings.specs.Call.{Choice, MetricCall, choice_as, chosen_time, last_or, metric_for, tagged}
use Rattle.cadence_settings.specs.Settings.{HasSeparator, Settings}
use Rattle.cadence_text.specs.declared.line.MetricType.{MetricType}
use Rattle.cadence_text.specs.Line.{line_of}
use Rattle.cadence_text.specs.Metric.{Tag}
use Rattle.cadence_text.specs.OneReading.{IsClear}
use Rattle.cadence_value.specs.Number.{Number, whole}

-- a call with these tags, and without other options and numbers
abbrev pub tagged_call : MetricType → List ℕ → List Tag → MetricCall
tagged_call kind key tags = record { kind = kind; key = key; numbers = []; choices = map tagged tags }

-- the option that adds a tag, as it is or with cleaned texts (`true`)
abbrev pub sent_tag : Bool → Tag → Choice
sent_tag is_cleaned tag = choice_as is_cleaned (tagged tag)

-- the list of the number 0
abbrev pub zeros : List Number
zeros = whole (pos 0) ∷ []

-- The call sets no time.
abbrev pub IsUntimed : MetricCall → Type 0
IsUntimed call = last_or chosen_time None call.choices ≡ None

-- This is the line of the call with the number 0, and its metric is clear.
pub record IsLineOfZero (settings : Settings) (call : MetricCall) (line : List ℕ) : Type 0 where
  pub clear : IsClear (metric_for settings (record call { numbers = zeros }))
  pub whole : line_of (metric_for settings (record call { numbers = zeros })) ≡ line

-- The error says why a key was not made: memory ran out, or a text has a separator, and then not all texts are free of
-- separators (`false`).
abbrev pub MayFailFor : Bool → MetricError → Type 0
MayFailFor free e = (e ≡ out_of_memory) ⊎ (HasSeparator e × (free ≡ false))
