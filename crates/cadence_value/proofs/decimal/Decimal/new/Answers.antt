use Rattle.std.proofs.Common.{rules, ◌≡◌, ◌-◌, ℤ, pos, FitsSigned, to_z, arith, int_div, int_rem, sym, ◌∙◌, ap}
use Rattle.std.proofs.lemmas.Int.{to_z-of_z}
use mir.Syntax.{w128}
use Rattle.cadence_value.proofs.digits.PowersOfTen.{tenth_is}
use Rattle.cadence_value.proofs.decimal.Decimal.new.Goals as goal

pub loop-places-preserved : goal.loop-places-preserved
loop-places-preserved c =
    let m : ℤ = to_z w128 c.loop-places.mantissa-bits in
    let quotient_fits : FitsSigned w128 (int_div m (pos 10)) = search rules in
    let rest_fits : FitsSigned w128 (int_rem m (pos 10)) = search rules in
    let no_rest : int_rem m (pos 10) ≡ pos 0 = sym (to_z-of_z w128 _ rest_fits) ∙ ap (to_z w128) c.if-mantissa-eq0.true in
    record {
      fewer = omega arith;
      same = rw (to_z-of_z w128 (int_div m (pos 10)) quotient_fits) (c.loop-places.invariant.same
          ∙ tenth_is m (c.args.places - c.loop-places.places) (c.args.places - (c.loop-places.places - 1)) (omega arith) no_rest);
    }
