use Rattle.std.proofs.Common.{◌≤◌, length, string_bytes, subst, sym}
use Rattle.cadence_value.specs.Number.{natural, number_text, whole}
use Rattle.cadence_aggregating.specs.Calls.{line_of_keyed}
use Rattle.cadence_aggregating.specs.Keys.{line_of_counter, line_of_gauge}
use Rattle.cadence_aggregating.proofs.Called.{no_shorter}
use Rattle.cadence_aggregating.proofs.call.context_of.Goals as goal

pub returns-in-Raise : goal.returns-in-Raise
returns-in-Raise c =
    let key = c.in-Raise.key.now in
    subst (λ call. length c.deref.result.now ≤ length (line_of_keyed call)) (sym c.in-Raise.is)
    (subst (λ t. length t ≤ length (line_of_counter key c.in-Raise.field-1)) (sym c.deref.ensures)
    (no_shorter (string_bytes key.context) (number_text (whole c.in-Raise.field-1))))

pub returns-in-Set : goal.returns-in-Set
returns-in-Set c =
    let key = c.in-Set.key.now in
    subst (λ call. length c.deref-in-Set.result.now ≤ length (line_of_keyed call)) (sym c.in-Set.is)
    (subst (λ t. length t ≤ length (line_of_gauge key c.in-Set.field-1)) (sym c.deref-in-Set.ensures)
    (no_shorter (string_bytes key.context) (number_text (natural c.in-Set.field-1))))
