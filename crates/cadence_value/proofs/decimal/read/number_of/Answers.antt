use Rattle.std.proofs.Common.{arith, ◌≡◌, ◌∙◌, ap, length, subst, sym, true}
use Rattle.std.specs.Int.RustNames.{FitsSigned}
use Rattle.std.proofs.lemmas.Int.{to_z-of_z}
use mir.Syntax.{w128}
use Rattle.cadence_value.specs.Digits.{AreSigned, joined_digits, signed_integer}
use Rattle.cadence_value.specs.Number.{number, is_lowest}
use Rattle.cadence_value.proofs.reading.SignedDigits.{ends_lowest, not_zero}
use Rattle.cadence_value.proofs.decimal.read.number_of.Goals as goal

pub returns-in_default : goal.returns-in_default
returns-in_default c = c.why_none.ensures c.args.is_below

signed : (c : goal.In-Some-signed_number) → AreSigned c.args.is_below c.args.whole.now c.args.fraction.now
signed c = record {
  plain = c.in-Some.ensures.0.plain;
  nonzero = λ is. omega (arith, c.in-Some.ensures.1, not_zero c.args.is_below c.in-Some.size c.else-is_below.either is);
}

mantissa : (c : goal.In-Some-signed_number)
    → c.in-Some-signed_number.mantissa ≡ signed_integer c.args.is_below (joined_digits c.args.whole.now c.args.fraction.now)
mantissa c = c.in-Some-signed_number.ensures.1 ∙ ap (signed_integer c.args.is_below) c.in-Some.ensures.1

fits : (c : goal.In-Some-signed_number) → FitsSigned w128 c.in-Some-signed_number.mantissa
fits c = subst (FitsSigned w128) (sym c.in-Some-signed_number.ensures.1) c.in-Some-signed_number.ensures.0

lowest : (c : goal.In-Some-signed_number) → is_lowest c.in-Some-signed_number.mantissa (length c.args.fraction.now) ≡ true
lowest c =
    ap (λ m. is_lowest m (length c.args.fraction.now)) (mantissa c)
    ∙ ends_lowest c.args.is_below c.args.whole.now c.args.fraction.now (signed c).plain c.requires

pub invariant_of-result : goal.invariant_of-result
invariant_of-result c =
    rw (to_z-of_z w128 c.in-Some-signed_number.mantissa (fits c)) (c.in-Some.ensures.0.places, lowest c)

pub returns-in-Some-signed_number : goal.returns-in-Some-signed_number
returns-in-Some-signed_number c =
    rw (to_z-of_z w128 c.in-Some-signed_number.mantissa (fits c)) (
      signed c,
      record { mantissa = fits c; places = c.in-Some.ensures.0.places; lowest = lowest c },
      ap
          (λ m. number m (length c.args.fraction.now)) (mantissa c),
    )
