-- The statuses that calls of C return, under the names of include/cadence.h.
use Rattle.std.specs.Prelude.{◌≡◌, ◌⊎◌, ℕ, List, [], ◌∷◌, Ok, Err}
use Rattle.std.specs.declared.result.Result.{Result}
use Rattle.cadence_errors.specs.declared.input_error.InputError.{InputError}
use Rattle.cadence_errors.specs.declared.input_error.InputError.TheVariants.{Unusable, OutOfMemory}
use Rattle.cadence_events.specs.declared.refusal.Unfit.{Unfit}
use Rattle.cadence_events.specs.declared.refusal.Unfit.TheVariants as unfit
use Rattle.cadence_host.specs.declared.status.StatusError.{StatusError}
use Rattle.cadence_host.specs.declared.status.StatusError.TheVariants.{NoMemory, Full, Invalid, NotUtf8, NoPacket, TooSmall, Separator, Variable}
use Rattle.cadence_host.specs.declared.status.StatusError.TheVariants.{Unfit as Refused}

-- the call succeeded
abbrev pub CADENCE_OK : ℕ
CADENCE_OK = 0

-- the handle has no client
abbrev pub CADENCE_NO_CLIENT : ℕ
CADENCE_NO_CLIENT = 1

-- memory ran out
abbrev pub CADENCE_NO_MEMORY : ℕ
CADENCE_NO_MEMORY = 2

-- the queue has no room for the packets that the call makes
abbrev pub CADENCE_FULL : ℕ
CADENCE_FULL = 3

-- a kind, a policy, a number of packets or a value is invalid
abbrev pub CADENCE_INVALID : ℕ
CADENCE_INVALID = 4

-- a text is not UTF-8
abbrev pub CADENCE_NOT_UTF8 : ℕ
CADENCE_NOT_UTF8 = 5

-- no packet waits
abbrev pub CADENCE_NO_PACKET : ℕ
CADENCE_NO_PACKET = 6

-- the caller's buffer is too small
abbrev pub CADENCE_TOO_SMALL : ℕ
CADENCE_TOO_SMALL = 7

-- the settings are strict, and a text has a separator
abbrev pub CADENCE_SEPARATOR : ℕ
CADENCE_SEPARATOR = 8

-- a variable of the environment can't be used
abbrev pub CADENCE_VARIABLE : ℕ
CADENCE_VARIABLE = 9

-- the status of a text that can't stand in the line of an event or a service check, from CADENCE_UNFIT_NAME, which is 10,
-- to CADENCE_UNFIT_MESSAGE, which is 16
abbrev pub code_of_unfit : Unfit → ℕ
code_of_unfit unfit.Name = 10
code_of_unfit unfit.Host = 11
code_of_unfit unfit.AggregationKey = 12
code_of_unfit unfit.SourceType = 13
code_of_unfit unfit.Tags = 14
code_of_unfit unfit.Container = 15
code_of_unfit unfit.Message = 16

-- the status of an error
abbrev pub code_of : StatusError → ℕ
code_of NoMemory = CADENCE_NO_MEMORY
code_of Full = CADENCE_FULL
code_of Invalid = CADENCE_INVALID
code_of NotUtf8 = CADENCE_NOT_UTF8
code_of NoPacket = CADENCE_NO_PACKET
code_of TooSmall = CADENCE_TOO_SMALL
code_of Separator = CADENCE_SEPARATOR
code_of Variable = CADENCE_VARIABLE
code_of (Refused why) = code_of_unfit why

-- the error of a line that was not made
abbrev pub error_of : InputError Unfit → StatusError
error_of (Unusable why) = Refused why
error_of OutOfMemory = NoMemory

-- the status of a result: CADENCE_OK, or that of the error
abbrev pub status : {A : Type 0} → Result A StatusError → ℕ
status (Ok done) = CADENCE_OK
status (Err error) = code_of error

-- the status is CADENCE_OK or one of the others
abbrev pub IsOkOr : List ℕ → ℕ → Type 0
IsOkOr [] s = s ≡ CADENCE_OK
IsOkOr (other ∷ others) s = (s ≡ other) ⊎ IsOkOr others s
