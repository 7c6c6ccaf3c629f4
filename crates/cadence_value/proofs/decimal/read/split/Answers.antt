use Rattle.std.proofs.Common.{arith, ◌≡◌, ◌<◌, ◌∙◌, ◌++◌, [], sym, ap, length}
use Rattle.std.specs.Prelude.{if◌then◌else◌, codes}
use Rattle.std.proofs.lemmas.List.{append-nil}
use Rattle.cadence_value.proofs.reading.SignedDigits.{dotted_some, signed_dot, signed_whole}
use Rattle.cadence_value.proofs.decimal.read.split.Goals as goal

pub returns-in_default-clause-parts : goal.returns-in_default-clause-parts
returns-in_default-clause-parts c =
    let cut = c.split_sign-is_below in
    let below = cut.result.0 in
    let w = cut.result.1.now in
    record {
      shown = ap (λ t. (if below then codes "-" else []) ++ t) (append-nil w) ∙ sym cut.ensures.whole;
      only = λ n e. signed_whole n below w c.args.text.now cut.ensures.whole cut.ensures.first c.in_default.ensures.none e;
    }

pub returns-then-is_empty-clause-none : goal.returns-then-is_empty-clause-none
returns-then-is_empty-clause-none c = λ n e.
    let cut = c.split_sign-is_below in
    let none : length c.in-Some.fraction.now ≡ 0 = grind arith in
    let some =
    (signed_dot n cut.result.0 c.in-Some.whole.now c.in-Some.fraction.now cut.result.1.now c.args.text.now cut.ensures.whole
    cut.ensures.first c.in-Some.ensures.front c.in-Some.ensures.whole e).1 in
    absurd (omega (arith, none, some))

pub returns-clause-parts : goal.returns-clause-parts
returns-clause-parts c =
    let cut = c.split_sign-is_below in
    let below = cut.result.0 in
    let w = c.in-Some.whole.now in
    let f = c.in-Some.fraction.now in
    let some : 0 < length f = grind arith in
    record {
      shown = ap (λ t. (if below then codes "-" else []) ++ (w ++ t)) (dotted_some f some)
          ∙ ap (λ t. (if below then codes "-" else []) ++ t) (sym c.in-Some.ensures.whole) ∙ sym cut.ensures.whole;
      only = λ n e. (signed_dot n below w f cut.result.1.now c.args.text.now cut.ensures.whole cut.ensures.first c.in-Some.ensures.front
          c.in-Some.ensures.whole e).0;
    }
