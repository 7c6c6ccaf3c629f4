use Rattle.std.proofs.Common.{inl}
use lib.Ieee.{of_bits, of_fields, odd}
use Rattle.cadence_float.proofs.Floats.{some_weaker}
use Rattle.cadence_float.proofs.Zero.{reads_as_zero}
use Rattle.cadence_float.proofs.float.decimal_of_float.Goals as goal

pub returns-then-x-clause-number : goal.returns-then-x-clause-number
unfolding of_bits of_fields odd
returns-then-x-clause-number c =
    some_weaker _ _ c.zero.result c.zero.ensures.zero (λ n is. inl (reads_as_zero n c.args.x is c.if-x.true))
