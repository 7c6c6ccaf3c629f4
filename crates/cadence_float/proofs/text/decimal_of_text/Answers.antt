use Rattle.std.proofs.Common.{◌≡◌, ◌≤◌, ◌+◌, ◌*◌, ◌^◌, ◌∙◌, ap, ap₂, arith, length, List, ℕ}
use Rattle.std.specs.Prelude.{if◌then◌else◌}
use Rattle.std.specs.Str.Parse.{digits_value}
use Rattle.std.specs.Float.Numeral.{numeral_digits, tens_up, tens_down}
use Rattle.std.proofs.lemmas.List.{length-take-le}
use Rattle.cadence_float.proofs.FittingDigits.{cut_short, joined_few, none_weaker, power_fits}
use Rattle.cadence_float.proofs.Floats.{all_digits, exponent_short, number_of_text, some_weaker, text_parts, too_large}
use Rattle.cadence_float.proofs.text.decimal_of_text.Goals as goal

pub value_of-front-requires-clause-few : goal.value_of-front-requires-clause-few
value_of-front-requires-clause-few c =
    let cut = cut_short c.split_sign-negative.result.0 c.split_sign-negative.result.1.now _ c.split_sign-negative.ensures.whole in
    let short = length-take-le c.format-len.result c.format-len.new.out in
    let whole : length c.whole.result.now ≡ length c.scan-numeral.result.whole = ap (λ (l : List ℕ). length l) c.whole.ensures.value in
    let few : length c.whole.result.now ≤ 25 = omega (arith, cut, short, whole, c.format-len.ensures.short, c.scan-numeral.ensures.within, c.scan-numeral.ensures.counted) in
    omega (arith, power_fits (length c.whole.result.now) 25 few)

pub value_of-digits-requires-clause-few : goal.value_of-digits-requires-clause-few
value_of-digits-requires-clause-few c =
    let cut = cut_short c.split_sign-negative.result.0 c.split_sign-negative.result.1.now _ c.split_sign-negative.ensures.whole in
    let short = length-take-le c.format-len.result c.format-len.new.out in
    let whole : length c.whole.result.now ≡ length c.scan-numeral.result.whole = ap (λ (l : List ℕ). length l) c.whole.ensures.value in
    let fraction : length c.fraction-fraction.result.now ≡ length c.scan-numeral.result.fraction = ap (λ (l : List ℕ). length l) c.fraction-fraction.ensures.value in
    let few : length c.whole.result.now + length c.fraction-fraction.result.now ≤ 25 =
    omega (arith, cut, short, whole, fraction, c.format-len.ensures.short, c.scan-numeral.ensures.within, c.scan-numeral.ensures.counted) in
    joined_few c.value_of-front.result (length c.whole.result.now) (length c.fraction-fraction.result.now) c.value_of-front.ensures.bound few

pub of_parts-requires : goal.of_parts-requires
of_parts-requires c =
    let cut = cut_short c.split_sign-negative.result.0 c.split_sign-negative.result.1.now _ c.split_sign-negative.ensures.whole in
    let short = length-take-le c.format-len.result c.format-len.new.out in
    let whole : length c.whole.result.now ≡ length c.scan-numeral.result.whole = ap (λ (l : List ℕ). length l) c.whole.ensures.value in
    let fraction : length c.fraction-fraction.result.now ≡ length c.scan-numeral.result.fraction = ap (λ (l : List ℕ). length l) c.fraction-fraction.ensures.value in
    let few : length c.whole.result.now + length c.fraction-fraction.result.now ≤ 25 =
    omega (arith, cut, short, whole, fraction, c.format-len.ensures.short, c.scan-numeral.ensures.within, c.scan-numeral.ensures.counted) in
    omega (arith, c.value_of-digits.ensures.bound, joined_few c.value_of-front.result (length c.whole.result.now) (length c.fraction-fraction.result.now) c.value_of-front.ensures.bound few)

pub value_of-exponent-requires-clause-few : goal.value_of-exponent-requires-clause-few
value_of-exponent-requires-clause-few c =
    let p = c.scan-numeral.result in
    let short = length-take-le c.format-len.result c.format-len.new.out in
    let parts = text_parts c.split_sign-negative.result.0 c.split_sign-negative.result.1.now _ c.args.x p c.scan-numeral.ensures.parts c.format-len.ensures.layout c.format-len.ensures.parses
    (omega (arith, short, c.format-len.ensures.short)) c.split_sign-negative.ensures.whole c.split_sign-negative.ensures.first in
    let same : length c.exponent.result.now ≡ length p.exponent = ap (λ (l : List ℕ). length l) c.exponent.ensures.value in
    let few : length c.exponent.result.now ≤ 25 = omega (arith, same, exponent_short p, parts.short) in
    omega (arith, power_fits (length c.exponent.result.now) 25 few)

pub powers-up-requires : goal.powers-up-requires
powers-up-requires c =
    let p = c.scan-numeral.result in
    let short = length-take-le c.format-len.result c.format-len.new.out in
    let parts = text_parts c.split_sign-negative.result.0 c.split_sign-negative.result.1.now _ c.args.x p c.scan-numeral.ensures.parts c.format-len.ensures.layout c.format-len.ensures.parses
    (omega (arith, short, c.format-len.ensures.short)) c.split_sign-negative.ensures.whole c.split_sign-negative.ensures.first in
    let same : length c.exponent.result.now ≡ length p.exponent = ap (λ (l : List ℕ). length l) c.exponent.ensures.value in
    let few : length c.exponent.result.now ≤ 25 = omega (arith, same, exponent_short p, parts.short) in
    omega (arith, c.value_of-exponent.ensures.bound, power_fits (length c.exponent.result.now) 25 few)

pub returns-clause-number : goal.returns-clause-number
returns-clause-number c =
    let p = c.scan-numeral.result in
    let t = c.split_sign-negative.result.0 in
    let short = length-take-le c.format-len.result c.format-len.new.out in
    let parts = text_parts t c.split_sign-negative.result.1.now _ c.args.x p c.scan-numeral.ensures.parts c.format-len.ensures.layout c.format-len.ensures.parses
    (omega (arith, short, c.format-len.ensures.short)) c.split_sign-negative.ensures.whole c.split_sign-negative.ensures.first in
    let front = c.value_of-front.ensures.value ∙ ap (λ (l : List ℕ). 0 * 10 ^ length l + digits_value 10 l) c.whole.ensures.value in
    let digits : c.value_of-digits.result ≡ numeral_digits p = all_digits p c.value_of-front.result c.value_of-digits.result front
    (c.value_of-digits.ensures.value ∙ ap (λ (l : List ℕ). c.value_of-front.result * 10 ^ length l + digits_value 10 l) c.fraction-fraction.ensures.value) in
    let exponent : c.value_of-exponent.result ≡ digits_value 10 p.exponent = omega (arith, c.value_of-exponent.ensures.value ∙ ap (λ (l : List ℕ). 0 * 10 ^ length l + digits_value 10 l) c.exponent.ensures.value) in
    let up : c.powers-up.result.0 ≡ tens_up p = c.powers-up.ensures.up ∙ ap₂ (λ b (e : ℕ). if b then 0 else e) c.is_exponent_negative.ensures exponent in
    let down : c.powers-up.result.1 ≡ tens_down p = c.powers-up.ensures.down ∙ ap₂ (λ (k e : ℕ). k + e) (ap (λ (l : List ℕ). length l) c.fraction-fraction.ensures.value)
    (ap₂ (λ b (e : ℕ). if b then e else 0) c.is_exponent_negative.ensures exponent) in
    some_weaker _ _ c.of_parts.result c.of_parts.ensures.number
    (λ n is. number_of_text c.args.x t p c.value_of-digits.result c.powers-up.result.0 c.powers-up.result.1 n parts digits up down is)

pub returns-clause-none : goal.returns-clause-none
returns-clause-none c =
    let p = c.scan-numeral.result in
    let t = c.split_sign-negative.result.0 in
    let short = length-take-le c.format-len.result c.format-len.new.out in
    let parts = text_parts t c.split_sign-negative.result.1.now _ c.args.x p c.scan-numeral.ensures.parts c.format-len.ensures.layout c.format-len.ensures.parses
    (omega (arith, short, c.format-len.ensures.short)) c.split_sign-negative.ensures.whole c.split_sign-negative.ensures.first in
    let front = c.value_of-front.ensures.value ∙ ap (λ (l : List ℕ). 0 * 10 ^ length l + digits_value 10 l) c.whole.ensures.value in
    let digits : c.value_of-digits.result ≡ numeral_digits p = all_digits p c.value_of-front.result c.value_of-digits.result front
    (c.value_of-digits.ensures.value ∙ ap (λ (l : List ℕ). c.value_of-front.result * 10 ^ length l + digits_value 10 l) c.fraction-fraction.ensures.value) in
    let exponent : c.value_of-exponent.result ≡ digits_value 10 p.exponent = omega (arith, c.value_of-exponent.ensures.value ∙ ap (λ (l : List ℕ). 0 * 10 ^ length l + digits_value 10 l) c.exponent.ensures.value) in
    let up : c.powers-up.result.0 ≡ tens_up p = c.powers-up.ensures.up ∙ ap₂ (λ b (e : ℕ). if b then 0 else e) c.is_exponent_negative.ensures exponent in
    let down : c.powers-up.result.1 ≡ tens_down p = c.powers-up.ensures.down ∙ ap₂ (λ (k e : ℕ). k + e) (ap (λ (l : List ℕ). length l) c.fraction-fraction.ensures.value)
    (ap₂ (λ b (e : ℕ). if b then e else 0) c.is_exponent_negative.ensures exponent) in
    none_weaker _ _ c.of_parts.result c.of_parts.ensures.none
    (too_large c.args.x t p c.value_of-digits.result c.powers-up.result.0 c.powers-up.result.1 parts digits up down)
