use Rattle.std.proofs.Common.{◌∙◌, sym}
use Rattle.std.specs.Bool.{passes}
use Rattle.cadence_float.proofs.Floats.{same_bits, some_weaker, reads_as}
use Rattle.cadence_float.proofs.float.read_decimal.Goals as goal

pub returns : goal.returns
returns c =
    let is = same_bits c.read_back-back.result c.args.x (passes _ c.read_back-back.type_inv) (passes _ c.well_formed.0.1) c.if-back-x.false in
    some_weaker _ _ c.decimal_over.result c.decimal_over.ensures (λ n worth. reads_as _ _ _ _ n c.args.x worth (sym c.read_back-back.ensures.value ∙ is))
