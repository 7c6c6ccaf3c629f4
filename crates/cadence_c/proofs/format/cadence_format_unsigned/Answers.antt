use Rattle.std.proofs.Common.{◌∙◌, ap, length}
use Rattle.std.proofs.lemmas.List.{length-map}
use Rattle.cadence_value.specs.Number.{natural}
use Rattle.cadence_value.specs.Values.{numbers_of}
use Rattle.cadence_c.proofs.Results.{formats_weaker, no_change}
use Rattle.cadence_c.proofs.format.cadence_format_unsigned.Goals as goal

pub returns-in-Ok : goal.returns-in-Ok
returns-in-Ok c =
    formats_weaker _ _ _ _ _ _ _ _ _ _ _ (λ text is. (numbers_of c.in-Ok.value, c.in-Ok.ensures.numbers, is))
    (no_change c.args.kind c.args.values.now (numbers_of c.in-Ok.value) (ap length c.in-Ok.ensures.numbers ∙ length-map c.args.values.now natural)) c.write_numbers.ensures
