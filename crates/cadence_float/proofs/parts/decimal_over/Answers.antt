use Rattle.std.proofs.Common.{◌≡◌, ◌-◌, arith, subst}
use mir.Syntax.{w128}
use Rattle.std.proofs.lemmas.Int.{to_z-of_z}
use Rattle.cadence_float.proofs.Floats.{some_of_ok, worth_below}
use Rattle.cadence_value.specs.Number.{IsLowestForm}
use Rattle.cadence_float.specs.Worth.{HasSignAndSize}
use Rattle.cadence_float.proofs.parts.decimal_over.Goals as goal

pub returns : goal.returns
returns c =
    let z = c.in_ok-mantissa.mantissa in
    let signed = subst (λ s. HasSignAndSize c.args.negative s z) c.from.ensures c.in_ok-mantissa.ensures.signed in
    let whole : c.args.places ≡ c.args.places - 0 = omega arith in
    some_of_ok _ _ _ _ c.ok.ensures.value c.new.ensures.value
    (λ n low. worth_below c.args.negative c.args.digits 0 c.args.places z n (omega arith) signed (subst (λ k. IsLowestForm z k n) whole (rw (to_z-of_z w128 z signed.fits) at low)))
