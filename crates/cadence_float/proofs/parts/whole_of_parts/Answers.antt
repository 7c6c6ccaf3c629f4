use Rattle.std.proofs.Common.{◌≡◌, ◌≤◌, ◌-◌, ◌*◌, ◌^◌, ◌∙◌, ap, arith, inr, refl, subst}
use mir.Syntax.{w128}
use Rattle.std.proofs.lemmas.Int.{to_z-of_z}
use Rattle.cadence_float.proofs.FittingDigits.{if_none, power_fits, unfit_of, unfit_past}
use Rattle.cadence_float.proofs.Floats.{some_of_ok, worth_above}
use Rattle.cadence_float.specs.Worth.{HasSignAndSize}
use Rattle.cadence_float.proofs.parts.whole_of_parts.Goals as goal

pub returns-then-zeros-gt-MOST_ZEROS-clause-none : goal.returns-then-zeros-gt-MOST_ZEROS-clause-none
returns-then-zeros-gt-MOST_ZEROS-clause-none c = unfit_past c.args.digits c.args.up c.args.down c.requires (omega (arith, c.if-zeros-gt-MOST_ZEROS.true))

pub pow-requires : goal.pow-requires
pow-requires c = omega (arith, power_fits (c.args.up - c.args.down) 38 (omega (arith, c.if-zeros-gt-MOST_ZEROS.false)))

pub returns-in_err-size-clause-none : goal.returns-in_err-size-clause-none
returns-in_err-size-clause-none c =
    let scale : c.args.digits * c.pow.result ≡ c.args.digits * 10 ^ (c.args.up - c.args.down) = ap (λ k. c.args.digits * k) c.pow.ensures in
    let large : 2 ^ 127 ≤ c.args.digits * 10 ^ (c.args.up - c.args.down) = omega (arith, scale, c.in_err-size.ensures) in
    if_none c.from_residual.result (unfit_of c.args.digits c.args.up c.args.down (c.args.digits * 10 ^ (c.args.up - c.args.down)) c.requires refl (inr large))

pub returns-in_err-mantissa-clause-none : goal.returns-in_err-mantissa-clause-none
returns-in_err-mantissa-clause-none c =
    let size : c.in_ok-size.size ≡ c.args.digits * 10 ^ (c.args.up - c.args.down) = c.in_ok-size.ensures.1 ∙ ap (λ k. c.args.digits * k) c.pow.ensures in
    if_none c.from_residual-in_err-mantissa.result (unfit_of c.args.digits c.args.up c.args.down c.in_ok-size.size c.requires size c.in_err-mantissa.ensures.none)

pub returns-clause-number : goal.returns-clause-number
returns-clause-number c =
    let z = c.in_ok-mantissa.mantissa in
    let size : c.in_ok-size.size ≡ c.args.digits * 10 ^ (c.args.up - c.args.down) = c.in_ok-size.ensures.1 ∙ ap (λ k. c.args.digits * k) c.pow.ensures in
    let signed = subst (λ s. HasSignAndSize c.args.negative s z) size c.in_ok-mantissa.ensures.signed in
    some_of_ok _ _ _ _ c.ok.ensures.value c.new.ensures.value (λ n low. worth_above c.args.negative c.args.digits c.args.up c.args.down z n c.requires signed (rw (to_z-of_z w128 z signed.fits) at low))
