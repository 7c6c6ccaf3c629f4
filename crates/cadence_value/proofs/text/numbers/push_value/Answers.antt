use Rattle.std.proofs.Common.{◌≡◌, map, sym, ap, ◌∙◌}
use Rattle.std.proofs.lemmas.List.{map-id}
use Rattle.cadence_value.specs.Number.{Number}
use Rattle.cadence_value.specs.Values.{numbers_of}
use Rattle.cadence_value.proofs.text.numbers.push_value.Goals as goal

pub returns-in-PackedDecimal : goal.returns-in-PackedDecimal
returns-in-PackedDecimal g c =
    let e : map (λ (n : Number). n) c.as_slice-in-PackedDecimal.result.now ≡ numbers_of c.args.value.now =
    map-id c.as_slice-in-PackedDecimal.result.now ∙ c.as_slice-in-PackedDecimal.ensures.value ∙ sym (ap (λ v. numbers_of v) c.in-PackedDecimal.is) in
    rw e at c.push_list-in-PackedDecimal.ensures
