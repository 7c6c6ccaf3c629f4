-- `from_parts` moves the two fields of the parts, and the pointer owns what the parts owned.
use mathlib.Core.Path.{◌≡◌, refl}
use Rattle.std.specs.Prelude.{Some}
use base.Logic.{emp, id⊢}
use contract.Monad.{fact_i}
use Rattle.cadence_c.proofs.AsBox.{sums_box, parts}
use Rattle.cadence_c.proofs.Pointers.{meets_moved}
use Rattle.cadence_c.specs.contracts.sums_handle.SumsPointer.{the_row}
use Rattle.cadence_c.specs.contracts.sums_handle.SumsPointer.from_parts.Key.{name}
use Rattle.cadence_c.proofs.sums_handle.SumsPointer.from_parts.Statement as stated
use Rattle.cadence_c.proofs.sums_handle.SumsPointer.from_parts.Code as code

pub from_parts_spec : {M : Type 1} → stated.statement M
from_parts_spec 𝓤 𝓛 𝓜 𝓡 wired =
    meets_moved sums_box (parts sums_box.row) the_row 𝓛 (λ _. emp 𝓤) (λ p made. made.sums ≡ Some p.value) 𝓜 𝓡
    (λ _. Unit {0}) (λ _. fact_i 𝓤 (Unit {0}) (emp 𝓤) tt) (λ p _. record {
      box = record { ptr = p.ptr; alloc = p.alloc; value = p.value };
      made = record { at = p.ptr; alloc = p.alloc; sums = Some p.value };
      opens = λ vs. id⊢ 𝓤 _;
      closes = λ vs. id⊢ 𝓤 _;
      says = refl;
    }) (λ _. tt) _ _ (λ κs x f. refl) name (code.unfolded 𝓤 𝓛.H 𝓜 𝓡 wired)
