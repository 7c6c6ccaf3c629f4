-- Which error of a call says the same as the error of an input.
use Rattle.std.specs.Prelude.{◌≡◌, List, Option, ℕ}
use Rattle.cadence_errors.specs.Errors.{IsUnusable, out_of_memory}
use Rattle.cadence_errors.specs.declared.MetricError.{MetricError}
use Rattle.cadence_errors.specs.declared.input_error.InputError.{InputError}
use Rattle.cadence_errors.specs.declared.input_error.InputError.TheVariants.{Unusable, OutOfMemory}

-- Both say that an input can't be used, the second with the text of the reason, if contracts name it. Or both say that
-- memory ran out.
abbrev pub IsSame : {W : Type 0} → (W → Option (List ℕ)) → InputError W → MetricError → Type 0
IsSame said (Unusable why) e = IsUnusable (said why) e
IsSame said OutOfMemory e = e ≡ out_of_memory
