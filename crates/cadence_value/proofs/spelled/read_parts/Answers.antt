use Rattle.std.proofs.Common.{sym, subst}
use Rattle.std.specs.Str.Parse.{starts_with_minus, without_leading_sign}
use mir.Syntax.{w32}
use Rattle.std.proofs.lemmas.Int.{to_z-of_z}
use Rattle.cadence_value.specs.Finds.{Finds}
use Rattle.cadence_value.specs.Number.{IsDecimal}
use Rattle.cadence_value.specs.SpelledNumber.{IsOfDigits, SaysUnsigned}
use Rattle.cadence_value.proofs.spelling.OneReading.{found_split, none_split, raised_fits}
use Rattle.cadence_value.proofs.spelled.read_parts.Goals as goal

pub returns-in_err-front : goal.returns-in_err-front
returns-in_err-front c =
    let signed = c.split_sign-is_below in
    rw c.from_residual.ensures (λ n h.
    none_split (starts_with_minus c.args.text.now) signed.result.1.now c.args.text n c.in_err-front.ensures
    (subst (λ t. SaysUnsigned (starts_with_minus c.args.text.now) t n) (sym signed.ensures.rest) h.1))

pub returns : goal.returns
returns c =
    let signed = c.split_sign-is_below in
    let e = c.in_ok-front.exponent in
    let same_exponent = to_z-of_z w32 e (raised_fits signed.result.1.now c.in_ok-front.front.now e c.in_ok-front.ensures.0) in
    subst (λ b. Finds (λ n. IsDecimal n × SaysUnsigned b (without_leading_sign c.args.text.now) n) c.number_of.result)
    signed.ensures.below
    (subst (λ t. Finds (λ n. IsDecimal n × SaysUnsigned signed.result.0 t n) c.number_of.result) signed.ensures.rest
    (found_split signed.result.0 signed.result.1.now c.in_ok-front.front.now c.split_dot.result.0.now c.split_dot.result.1.now c.in_ok-front.exponent
    c.number_of.result c.in_ok-front.ensures c.split_dot.ensures.dotted c.split_dot.ensures.front
    (subst (λ k. Finds (λ n. IsDecimal n × IsOfDigits signed.result.0 c.split_dot.result.0.now c.split_dot.result.1.now k n) c.number_of.result) same_exponent
    c.number_of.ensures)))
