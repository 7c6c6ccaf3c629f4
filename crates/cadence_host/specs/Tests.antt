-- What the status of a call says of the texts and the numbers of the call.
use Rattle.std.specs.Prelude.{◌≡◌, ◌⊎◌, ℕ, List, Bool, IsTrue, IsFalse}
use Rattle.cadence_host.specs.Calls.{IsInvalidCall, IsUtf8Call}
use Rattle.cadence_host.specs.Status.{CADENCE_FULL, CADENCE_INVALID, CADENCE_NOT_UTF8, CADENCE_OK, CADENCE_SEPARATOR, CADENCE_TOO_SMALL}
use Rattle.cadence_host.specs.Texts.{IsUtf8Settings, allows_c_call}
use Rattle.cadence_host.specs.declared.call.COptions.{COptions}
use Rattle.cadence_host.specs.declared.settings.CSettings.{CSettings}

-- The status of a call says whether the separators of its texts are allowed: CADENCE_SEPARATOR says that they are not,
-- and a call that found its texts good says that they are.
pub record IsAllowed (s : ℕ) (allowed : Bool) : Type 0 where
  pub yes : (s ≡ CADENCE_OK) ⊎ ((s ≡ CADENCE_FULL) ⊎ (s ≡ CADENCE_TOO_SMALL)) → IsTrue allowed
  pub no : s ≡ CADENCE_SEPARATOR → IsFalse allowed

-- What the status of a call that makes the line of a value says of the call. `lacks` says that the value is invalid.
pub record Tests (s : ℕ) (c : CSettings) (kind : ℕ) (key : List ℕ) (lacks : Type 0) (o : COptions) : Type 0 where
  pub separators : IsAllowed s (allows_c_call c.strict key o)
  pub text : s ≡ CADENCE_NOT_UTF8 → IsUtf8Settings c → IsUtf8Call key o → ⊥
  pub invalid : s ≡ CADENCE_INVALID → IsInvalidCall c kind o ⊎ lacks
