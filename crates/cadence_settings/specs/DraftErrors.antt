-- Why a draft or a line of a call was not made.
use Rattle.std.specs.Prelude.{◌≡◌, Bool, true, false, Some}
use Rattle.cadence_errors.specs.InputErrors.{IsSame}
use Rattle.cadence_errors.specs.declared.MetricError.{MetricError}
use Rattle.cadence_errors.specs.declared.input_error.InputError.{InputError}
use Rattle.cadence_errors.specs.declared.input_error.InputError.TheVariants.{Unusable, OutOfMemory}
use Rattle.cadence_settings.specs.Settings.{separator_text}
use Rattle.cadence_settings.specs.declared.settings.strict.Separator.{Separator}

-- The error is that memory ran out, if the text is allowed (`true`), and otherwise that the text has a separator.
abbrev pub DraftFails : Bool → InputError Separator → Type 0
DraftFails true e = e ≡ OutOfMemory
DraftFails false e = e ≡ Unusable (record {})

-- The error of a call says why its draft was not made: a text has a separator, or memory ran out.
abbrev pub IsDraftFault : InputError Separator → MetricError → Type 0
IsDraftFault = IsSame (λ _. Some separator_text)
