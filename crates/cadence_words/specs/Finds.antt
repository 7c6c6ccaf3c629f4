-- The results of searches that can also run out of memory.
use Rattle.std.specs.Prelude.{⊤, Result, Ok, Err}
use Rattle.cadence_errors.specs.declared.input_error.InputError.{InputError}
use Rattle.cadence_errors.specs.declared.input_error.InputError.TheVariants.{Unusable, OutOfMemory}
use Rattle.cadence_value.specs.Finds.{HasNone}

-- If the error is `Unusable`, no value has the property. If memory ran out, nothing is known.
abbrev pub FailsAsWord : {X W : Type 0} → (X → Type 0) → InputError W → Type 0
FailsAsWord Has (Unusable why) = HasNone Has
FailsAsWord Has OutOfMemory = ⊤

-- If the search returns a value, then that value, as `view` sees it, has the property. If it returns an error, it is
-- one that `FailsAsWord` allows.
abbrev pub FindsOrFails : {C X W : Type 0} → (X → Type 0) → (C → X) → Result C (InputError W) → Type 0
FindsOrFails Has view (Ok c) = Has (view c)
FindsOrFails Has view (Err error) = FailsAsWord Has error
