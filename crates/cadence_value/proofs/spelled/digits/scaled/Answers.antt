use Rattle.std.proofs.Common.{arith, ◌≡◌, ◌≢◌, ◌-◌, ◌*◌, ◌%◌, ◌^◌, ◌<◌, ap, sym, subst, ◌∙◌, lit<}
use Rattle.std.specs.Int.RustNames.{FitsSigned}
use mir.Syntax.{w128}
use Rattle.std.proofs.lemmas.Int.{to_z-of_z}
use Rattle.std.proofs.Math.Nat.{pow-le-pow_right}
use Rattle.cadence_value.specs.Digits.{signed_integer}
use Rattle.cadence_value.specs.Number.{IsLowestForm}
use Rattle.cadence_value.proofs.spelling.Scaling.{few_places, few_zeros, good, signed_fits, size_fits}
use Rattle.cadence_value.proofs.spelled.digits.scaled.Goals as goal
use Rattle.cadence_value.proofs.spelled.digits.scaled.Goals.{then-zeros-gt-MOST_ZEROS-via-then-zeros-gt-MOST_ZEROS, then-zeros-gt-MOST_ZEROS-via-else-zeros-gt-MOST_ZEROS+then-places-gt-MOST_PLACES}

pub returns-then-zeros-gt-MOST_ZEROS : goal.returns-then-zeros-gt-MOST_ZEROS
returns-then-zeros-gt-MOST_ZEROS c = λ n h.
    let some : c.args.size % 10 ≢ 0 = λ e. c.if-size-eq0.false (c.requires e) in
    elim c.then-zeros-gt-MOST_ZEROS.branch [
      | then-zeros-gt-MOST_ZEROS-via-then-zeros-gt-MOST_ZEROS w ↦ few_zeros c.args.is_below c.args.size c.args.raised c.args.lowered n some h
          (omega (arith, w.if-zeros-gt-MOST_ZEROS, c.saturating_sub-zeros.ensures))
      | then-zeros-gt-MOST_ZEROS-via-else-zeros-gt-MOST_ZEROS+then-places-gt-MOST_PLACES w ↦ absurd (omega (
        arith,
        w.if-places-gt-MOST_PLACES,
        c.saturating_sub-places.ensures,
        few_places c.args.is_below c.args.size c.args.raised c.args.lowered n some h,
      ))
    ]

pub pow-requires : goal.pow-requires
pow-requires c = omega (
  arith,
  pow-le-pow_right {n = 10} (lit< tt) {i = c.saturating_sub-zeros.result} {j = 38} (omega (arith, c.if-zeros-gt-MOST_ZEROS.false)),
)

pub returns-in_err-size : goal.returns-in_err-size
returns-in_err-size c =
    rw c.from_residual.ensures (λ n h.
    let some : c.args.size % 10 ≢ 0 = λ e. c.if-size-eq0.false (c.requires e) in
    let power : c.pow.result ≡ 10 ^ (c.args.raised - c.args.lowered) = c.pow.ensures ∙ ap (λ k. 10 ^ k) c.saturating_sub-zeros.ensures in
    c.in_err-size.ensures (subst (λ k. c.args.size * k < 2 ^ 128) (sym power)
    (omega (arith, size_fits c.args.is_below c.args.size c.args.raised c.args.lowered n some h))))

pub returns-in_err-mantissa : goal.returns-in_err-mantissa
returns-in_err-mantissa c =
    rw c.from_residual-in_err-mantissa.ensures (λ n h.
    let some : c.args.size % 10 ≢ 0 = λ e. c.if-size-eq0.false (c.requires e) in
    let power : c.pow.result ≡ 10 ^ (c.args.raised - c.args.lowered) = c.pow.ensures ∙ ap (λ k. 10 ^ k) c.saturating_sub-zeros.ensures in
    let size : c.in_ok-size.size ≡ c.args.size * 10 ^ (c.args.raised - c.args.lowered) = c.in_ok-size.ensures.1 ∙ ap (λ k. c.args.size * k) power in
    c.in_err-mantissa.ensures (subst (λ k. FitsSigned w128 (signed_integer c.args.is_below k)) (sym size)
    (signed_fits c.args.is_below c.args.size c.args.raised c.args.lowered n some h)))

pub returns : goal.returns
returns c =
    let some : c.args.size % 10 ≢ 0 = λ e. c.if-size-eq0.false (c.requires e) in
    let power : c.pow.result ≡ 10 ^ (c.args.raised - c.args.lowered) = c.pow.ensures ∙ ap (λ k. 10 ^ k) c.saturating_sub-zeros.ensures in
    let size : c.in_ok-size.size ≡ c.args.size * 10 ^ (c.args.raised - c.args.lowered) = c.in_ok-size.ensures.1 ∙ ap (λ k. c.args.size * k) power in
    let mantissa : c.in_ok-mantissa.mantissa ≡ signed_integer c.args.is_below (c.args.size * 10 ^ (c.args.raised - c.args.lowered)) =
    c.in_ok-mantissa.ensures.1 ∙ ap (signed_integer c.args.is_below) size in
    let fits = subst (λ k. FitsSigned w128 (signed_integer c.args.is_below k)) size c.in_ok-mantissa.ensures.0 in
    good c.args.is_below c.args.size c.args.raised c.args.lowered c.in-Ok.number some fits
    (omega (arith, c.saturating_sub-places.ensures, c.if-places-gt-MOST_PLACES.false))
    (subst (λ p. IsLowestForm (signed_integer c.args.is_below (c.args.size * 10 ^ (c.args.raised - c.args.lowered))) p c.in-Ok.number) c.saturating_sub-places.ensures
    (subst (λ m. IsLowestForm m c.saturating_sub-places.result c.in-Ok.number) (to_z-of_z w128 c.in_ok-mantissa.mantissa (subst (FitsSigned w128) (sym c.in_ok-mantissa.ensures.1) c.in_ok-mantissa.ensures.0)
    ∙ mantissa) c.in-Ok.ensures.value))
