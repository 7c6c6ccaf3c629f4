use Rattle.std.proofs.Common.{arith, inl}
use mir.Syntax.{w128}
use Rattle.std.proofs.lemmas.Int.{to_z-of_z}
use Rattle.cadence_float.proofs.Floats.{some_of_ok, worth_below}
use Rattle.cadence_float.proofs.parts.of_parts.Goals as goal

pub returns-clause-number : goal.returns-clause-number
returns-clause-number c =
    let z = c.in_ok-mantissa.mantissa in
    let signed = c.in_ok-mantissa.ensures.signed in
    some_of_ok _ _ _ _ c.ok.ensures.value c.new.ensures.value
    (λ n low. inl (worth_below c.args.negative c.args.digits c.args.up c.args.down z n (omega (arith, c.if-down-up.false)) signed (rw (to_z-of_z w128 z signed.fits) at low)))
