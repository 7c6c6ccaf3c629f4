use Rattle.std.proofs.Common.{rules}
use Rattle.cadence_read.specs.Values.{IsNumberText}
use Rattle.cadence_read.proofs.ValuesRead.{number_only, numbers_first, numbers_later, only_number}
use Rattle.cadence_read.proofs.values.are_numbers.Goals as goal

pub returns-then-not-is_number : goal.returns-then-not-is_number
returns-then-not-is_number c =
    let some = c.in-Some in
    let none : IsNumberText some.value.now → ⊥ = search rules in
    (search rules, λ all. absurd (none (numbers_later c.loop-value.left.now some.value.now some.others.now some.ensures.front some.ensures.whole (c.loop-value.invariant.1.1 all)).0))

pub loop-value-preserved : goal.loop-value-preserved
loop-value-preserved c =
    let some = c.in-Some in
    let one : IsNumberText some.value.now = search rules in
    let first = numbers_first c.loop-value.left.now some.value.now some.others.now some.ensures.front some.ensures.whole one in
    let later = numbers_later c.loop-value.left.now some.value.now some.others.now some.ensures.front some.ensures.whole in
    (search rules, (λ h. c.loop-value.invariant.1.0 (first h), λ h. (later (c.loop-value.invariant.1.1 h)).1))

pub returns : goal.returns
returns c =
    let left = c.loop-value.left.now in
    let plain = c.in_default.ensures.none in
    let is = c.is_number-2.ensures in
    (λ h. c.loop-value.invariant.1.0 (number_only left plain (is.0 h)), λ h. is.1 (only_number left plain (c.loop-value.invariant.1.1 h)))
