-- A pointer to no sums owns nothing but its allocator.
use mathlib.Core.Path.{◌≡◌, refl}
use Rattle.std.specs.Prelude.{None}
use base.Logic.{id⊢}
use denote.RawPtr.{null_ptr}
use Rattle.cadence_c.proofs.AsBox.{sums_box}
use Rattle.cadence_c.proofs.Pointers.{meets_emptied}
use Rattle.cadence_c.specs.contracts.sums_handle.SumsPointer.{the_row}
use Rattle.cadence_c.specs.contracts.sums_handle.SumsPointer.empty.Key.{name}
use Rattle.cadence_c.proofs.sums_handle.SumsPointer.empty.Statement as stated
use Rattle.cadence_c.proofs.sums_handle.SumsPointer.empty.Code as code

pub empty_spec : {M : Type 1} → stated.statement M
empty_spec 𝓤 𝓛 𝓜 𝓡 wired =
    meets_emptied sums_box the_row 𝓛 (λ made. made.sums ≡ None) 𝓜 𝓡 (λ a. record { at = null_ptr; alloc = a; sums = None })
    (λ a vs. id⊢ 𝓤 _) (λ a. refl) (λ a. tt) _ (λ κs x f. refl) name (code.unfolded 𝓤 𝓛.H 𝓜 𝓡 wired)
