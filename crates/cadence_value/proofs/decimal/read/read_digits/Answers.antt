use Rattle.std.proofs.Common.{arith, ◌≡◌, ◌+◌, take, get_or, ap, subst, ◌∙◌}
use Rattle.std.specs.Char.{digit_value}
use Rattle.std.specs.Str.Parse.{AllDigits, digits_value_after}
use Rattle.std.proofs.lemmas.Int.Digits.{digits_more}
use Rattle.std.proofs.lemmas.List.{take_all}
use Rattle.std.proofs.lemmas.Str.{digit_value_digit}
use Rattle.cadence_value.proofs.reading.DigitRuns.{after_more, after_take}
use Rattle.cadence_value.proofs.reading.DigitsRead.{not_digit}
use Rattle.cadence_value.proofs.decimal.read.read_digits.Goals as goal

pub returns-then-not-is_ascii_digit : goal.returns-then-not-is_ascii_digit
returns-then-not-is_ascii_digit c =
    λ h. not_digit c.args.digits.now c.loop-byte.byte-index c.loop-byte-test.true c.if-not-is_ascii_digit.ensures.cases h.0

pub returns-in_err-value : goal.returns-in_err-value
returns-in_err-value c =
    rw c.from_residual.ensures (λ h.
    let i = c.loop-byte.byte-index in
    let ds = c.args.digits.now in
    let range = c.if-not-is_ascii_digit.ensures.cases in
    let byte : digit_value (get_or ds i 0) + 48 ≡ get_or ds i 0 = digit_value_digit (get_or ds i 0) range in
    c.in_err-value.ensures (omega (
      arith,
      h.1,
      byte,
      after_take c.args.start ds (i + 1),
      after_more c.args.start ds i c.loop-byte-test.true,
      c.loop-byte.invariant.same,
    )))

pub loop-byte-preserved : goal.loop-byte-preserved
loop-byte-preserved c =
    let i = c.loop-byte.byte-index in
    let ds = c.args.digits.now in
    let range = c.if-not-is_ascii_digit.ensures.cases in
    let byte : digit_value (get_or ds i 0) + 48 ≡ get_or ds i 0 = digit_value_digit (get_or ds i 0) range in
    record {
      digits = digits_more 10 ds i c.loop-byte-test.true c.loop-byte.invariant.digits c.if-not-is_ascii_digit.ensures.bound;
      same = omega (arith, byte, after_more c.args.start ds i c.loop-byte-test.true, c.loop-byte.invariant.same, c.in_ok-value.ensures);
      fits = omega (arith, c.in_ok-value.ensures);
    }

pub returns : goal.returns
returns c =
    let i = c.loop-byte.byte-index in
    let ds = c.args.digits.now in
    let all : take i ds ≡ ds = take_all i ds (omega (arith, c.loop-byte-test.false)) in
    let same : c.loop-byte.value ≡ digits_value_after 10 c.args.start ds = c.loop-byte.invariant.same
    ∙ ap (digits_value_after 10 c.args.start) all in
    ((subst (AllDigits 10) all c.loop-byte.invariant.digits, omega (arith, same, c.loop-byte.invariant.fits)), same)
