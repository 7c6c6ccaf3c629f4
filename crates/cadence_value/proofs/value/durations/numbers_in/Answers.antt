use Rattle.std.proofs.Common.{◌^◌, ◌<◌, All, ap, map}
use Rattle.cadence_value.specs.Values.{count_in}
use Rattle.cadence_value.specs.Number.{natural}
use Rattle.cadence_value.proofs.digits.DurationNumbers.{Converts-refused, none_where_one_passes, numbers_that_fit}
use Rattle.cadence_value.proofs.value.durations.numbers_in.Goals as goal

pub returns-then-not-all_fit : goal.returns-then-not-all_fit
returns-then-not-all_fit g c =
    let none : All (λ d. count_in c.args.unit d < 2 ^ 64) c.args.durations.now.items
    → ⊥ = λ all. cc (c.all_fit.ensures.1 (rw c.deref.ensures.value all)) in
    let (text, is, says) = c.overflow.ensures in
    rw (none_where_one_passes (count_in c.args.unit) c.args.durations.now.items none) (text, is)

pub returns-in_err-numbers : goal.returns-in_err-numbers
returns-in_err-numbers g c =
    let all : All (λ d. count_in c.args.unit d < 2 ^ 64) c.args.durations.now.items =
    rw c.deref.ensures.value at (c.all_fit.ensures.0 c.if-not-all_fit.false) in
    rw (numbers_that_fit (count_in c.args.unit) c.args.durations.now.items all) (Converts-refused _ _ c.from_residual.ensures.1)

pub returns : goal.returns
returns g c =
    let all : All (λ d. count_in c.args.unit d < 2 ^ 64) c.args.durations.now.items =
    rw c.deref.ensures.value at (c.all_fit.ensures.0 c.if-not-all_fit.false) in
    rw (numbers_that_fit (count_in c.args.unit) c.args.durations.now.items all) (ap (map natural) c.in_ok-numbers.ensures)
