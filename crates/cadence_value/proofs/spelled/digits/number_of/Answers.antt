use Rattle.std.proofs.Common.{arith, ◌≡◌, ◌+◌, ◌*◌, ◌%◌, ◌^◌, ◌<◌, ◌++◌, length, ap, sym, subst, ◌∙◌, ℕ, replicate}
use Rattle.std.specs.Str.Parse.{AllDigits, digits_value, digits_value_after}
use mir.Syntax.{w32}
use Rattle.std.proofs.lemmas.Int.{to_z-of_z}
use Rattle.std.proofs.lemmas.List.{length-append, length-replicate}
use Rattle.cadence_value.specs.Digits.{signed_integer}
use Rattle.cadence_value.specs.Finds.{Finds}
use Rattle.cadence_value.specs.Number.{IsDecimal, IsLowestForm, Number}
use Rattle.cadence_value.specs.SpelledNumber.{lowered_by, raised_by}
use Rattle.cadence_value.proofs.reading.DigitRuns.{after_append, digits_join}
use Rattle.cadence_value.proofs.spelling.Trimming.{ends_plain, fits, found_of, front_fits, later_fits}
use Rattle.cadence_value.proofs.spelled.digits.number_of.Goals as goal

pub returns-in_err-front : goal.returns-in_err-front
returns-in_err-front c =
    rw c.from_residual.ensures (λ n h.
    let t = c.trim_both-digits.result in
    c.in_err-front.ensures (front_fits t.whole.now t.fraction.now
    (fits c.args.is_below c.args.whole.now c.args.fraction.now c.args.exponent (t.whole.now ++ t.fraction.now) t.zeros c.trim_both-digits.ensures n h)))

pub returns-in_err-size : goal.returns-in_err-size
returns-in_err-size c =
    rw c.from_residual-in_err-size.ensures (λ n h.
    let t = c.trim_both-digits.result in
    let all = later_fits t.whole.now t.fraction.now
    (fits c.args.is_below c.args.whole.now c.args.fraction.now c.args.exponent (t.whole.now ++ t.fraction.now) t.zeros c.trim_both-digits.ensures n h) in
    c.in_err-size.ensures (subst (λ k. AllDigits 10 t.fraction.now × (digits_value_after 10 k t.fraction.now < 2 ^ 128)) (sym c.in_ok-front.ensures.1) all))

pub overflow_add-digits : goal.overflow_add-digits
overflow_add-digits c =
    let t = c.trim_both-digits.result in
    omega (
      arith,
      ap (λ xs. length xs) c.trim_both-digits.ensures.same,
      length-append c.args.whole.now c.args.fraction.now,
      length-append (t.whole.now ++ t.fraction.now) (replicate t.zeros 48),
      length-replicate {A = ℕ} t.zeros 48,
      c.from-2.ensures,
    )

pub scaled-requires : goal.scaled-requires
scaled-requires c = λ none.
    let t = c.trim_both-digits.result in
    let ds = t.whole.now ++ t.fraction.now in
    let is : c.in_ok-size.size ≡ digits_value 10 ds = c.in_ok-size.ensures.1
    ∙ ap (λ k. digits_value_after 10 k t.fraction.now) c.in_ok-front.ensures.1 ∙ sym (after_append 0 t.whole.now t.fraction.now) in
    let digits = digits_join t.whole.now t.fraction.now c.in_ok-front.ensures.0.0 c.in_ok-size.ensures.0.0 in
    is ∙ ends_plain ds digits c.trim_both-digits.ensures.plain (ap (λ k. k % 10) (sym is) ∙ none)

pub returns : goal.returns
returns c =
    let t = c.trim_both-digits.result in
    let ds = t.whole.now ++ t.fraction.now in
    let is : c.in_ok-size.size ≡ digits_value 10 ds = c.in_ok-size.ensures.1
    ∙ ap (λ k. digits_value_after 10 k t.fraction.now) c.in_ok-front.ensures.1 ∙ sym (after_append 0 t.whole.now t.fraction.now) in
    let digits = digits_join t.whole.now t.fraction.now c.in_ok-front.ensures.0.0 c.in_ok-size.ensures.0.0 in
    let raised : c.from-2.result ≡ raised_by c.args.exponent = c.from-2.ensures ∙ c.shifts_of-raised.ensures.raised
    ∙ ap raised_by (to_z-of_z w32 c.args.exponent c.ranges.exponent) in
    let lowered : c.from.result ≡ lowered_by c.args.exponent = c.from.ensures ∙ c.shifts_of-raised.ensures.lowered
    ∙ ap lowered_by (to_z-of_z w32 c.args.exponent c.ranges.exponent) in
    found_of c.args.is_below c.args.whole.now c.args.fraction.now c.args.exponent ds t.zeros c.trim_both-digits.ensures c.scaled.result
    (grind (arith, length-append c.args.whole.now c.args.fraction.now)) digits
    (subst (λ (k : ℕ). Finds (λ (n : Number). IsDecimal n × IsLowestForm (signed_integer c.args.is_below (digits_value 10 ds * 10 ^ (t.zeros + raised_by c.args.exponent))) (length c.args.fraction.now + k) n) c.scaled.result) lowered
    (subst (λ (k : ℕ). Finds (λ (n : Number). IsDecimal n × IsLowestForm (signed_integer c.args.is_below (digits_value 10 ds * 10 ^ (t.zeros + k))) (length c.args.fraction.now + c.from.result) n) c.scaled.result) raised
    (subst (λ (k : ℕ). Finds (λ (n : Number). IsDecimal n × IsLowestForm (signed_integer c.args.is_below (k * 10 ^ (t.zeros + c.from-2.result))) (length c.args.fraction.now + c.from.result) n) c.scaled.result) is c.scaled.ensures)))
