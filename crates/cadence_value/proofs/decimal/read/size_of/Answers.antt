use Rattle.std.proofs.Common.{◌≡◌, ℕ, ◌^◌, ◌+◌, ◌*◌, Option, Some, None, [], ap, arith, length, rules, sym, ◌∙◌}
use Rattle.std.specs.Prelude.{SomeIff}
use Rattle.std.specs.Str.Parse.{digits_value, digits_value_after}
use Rattle.cadence_value.specs.Digits.{joined_digits}
use Rattle.cadence_value.proofs.reading.DigitRuns.{after_value}
use Rattle.cadence_value.proofs.reading.SignedDigits.{plain_whole, read_plain, whole_le}
use Rattle.cadence_value.proofs.decimal.read.size_of.Goals as goal

pub returns-in_err-read_whole : goal.returns-in_err-read_whole
returns-in_err-read_whole c =
    let w = c.args.whole.now in
    let f = c.args.fraction.now in
    let none : c.from_residual.result ≡ None = search rules in
    rw none (λ have. plain_whole w f have.plain (omega (arith, have.small, whole_le w f)) c.in_err-read_whole.ensures)

same_sum : {P Q : Type 0} (o : Option ℕ) (v u : ℕ) → (P → Q) → (Q → P) → v ≡ u → SomeIff o P v → SomeIff o Q u
same_sum (Some x) v u to from e (is, same) = (to is, same ∙ e)
same_sum None v u to from e none = λ is. none (from is)

pub returns : goal.returns
returns c =
    let w = c.args.whole.now in
    let f = c.args.fraction.now in
    let a = c.in_ok-read_whole.field-0 in
    let shown = c.in_ok-read_whole.ensures.1 in
    let sum : digits_value_after 10 a f ≡ joined_digits w f = after_value a f
    ∙ ap (λ x. x * 10 ^ length f + digits_value 10 f) (sym (read_plain w [] a shown tt).1) in
    same_sum c.read_digits.result (digits_value_after 10 a f) (joined_digits w f)
    (λ is. record { plain = (read_plain w f a shown is.0).0; places = omega (arith, c.if-fraction-from.false, c.from.ensures); small = omega (arith, is.1, sum) })
    (λ have. (have.plain.fraction, omega (arith, have.small, sum))) sum c.read_digits.ensures
