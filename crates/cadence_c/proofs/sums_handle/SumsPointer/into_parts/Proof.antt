-- `into_parts` moves the two fields of the pointer, and the parts own what the pointer owned.
use mathlib.Core.Path.{◌≡◌, refl, sym, subst}
use Rattle.std.specs.Prelude.{IsSome, Option, Some}
use base.Logic.{ent, id⊢}
use contract.Monad.{fact}
use types.Logic.{sem}
use Rattle.std_alloc.proofs.BoxSteps.Form.{D, B}
use Rattle.cadence_c.proofs.AsBox.{sums_box, parts, some_of}
use Rattle.cadence_c.proofs.Pointers.{meets_moved}
use Rattle.cadence_c.specs.contracts.sums_handle.SumsPointer.{the_row}
use Rattle.cadence_c.specs.contracts.sums_handle.SumsPointer.into_parts.Key.{name}
use Rattle.cadence_c.proofs.sums_handle.SumsPointer.into_parts.Statement as stated
use Rattle.cadence_c.proofs.sums_handle.SumsPointer.into_parts.Code as code

pub into_parts_spec : {M : Type 1} → stated.statement M
into_parts_spec 𝓤 𝓛 𝓜 𝓡 wired =
    meets_moved sums_box the_row (parts sums_box.row) 𝓛 (λ s. fact 𝓤 (IsSome s.sums)) (λ s made. s.sums ≡ Some made.value) 𝓜 𝓡
    (λ s. IsSome s.sums) (λ s. id⊢ 𝓤 _) (λ s is.
    let found = some_of s.sums is in
    let box : D sums_box = record { ptr = s.at; alloc = s.alloc; value = found.0 } in
    record {
      box = box;
      made = record { ptr = s.at; alloc = s.alloc; value = found.0 };
      opens = λ vs. subst (λ (c : Option sums_box.row.Denot).
          ent 𝓤 (sem 𝓛 ((the_row).own_val (record { at = s.at; alloc = s.alloc; sums = c }) vs)) (sem 𝓛 ((B sums_box).own_val box vs)))
          (sym found.1) (id⊢ 𝓤 _);
      closes = λ vs. id⊢ 𝓤 _;
      says = found.1;
    }) (λ _. tt) _ _ (λ κs x f. refl) name (code.unfolded 𝓤 𝓛.H 𝓜 𝓡 wired)
