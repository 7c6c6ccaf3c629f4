-- Why a draft of a call whose value is a text was not made.
use Rattle.std.specs.Prelude.{◌≡◌, Bool, true, false}
use Rattle.cadence_errors.specs.declared.input_error.InputError.{InputError}
use Rattle.cadence_errors.specs.declared.input_error.InputError.TheVariants.{Unusable, OutOfMemory}
use Rattle.cadence_settings.specs.declared.settings.text.UnfitText.{UnfitText}
use Rattle.cadence_settings.specs.declared.settings.text.UnfitText.TheVariants.{Key, Member}
use Rattle.cadence_text.specs.TextValue.{IsFitValue}
use Rattle.cadence_text.specs.declared.line.draft.text.TextValue.{TextValue}

-- If the settings don't allow the key (`false`), the error is that the key has a separator. Otherwise it is that no line
-- can have the value, or if a line can, that memory ran out.
abbrev pub TextDraftFails : Bool → TextValue → InputError UnfitText → Type 0
TextDraftFails false value e = e ≡ Unusable Key
TextDraftFails true value OutOfMemory = IsFitValue value
TextDraftFails true value (Unusable why) = (why ≡ Member) × (IsFitValue value → ⊥)
