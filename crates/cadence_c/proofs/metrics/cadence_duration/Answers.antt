use Rattle.std.proofs.Common.{◌≡◌, None, refl, subst, sym}
use Rattle.cadence_host.specs.Calls.{durations_of}
use Rattle.cadence_value.specs.Values.{numbers_of}
use Rattle.cadence_c.proofs.Results.{keeps_weaker}
use Rattle.cadence_c.proofs.metrics.cadence_duration.Goals as goal

pub returns-in-Ok : goal.returns-in-Ok
returns-in-Ok c =
    keeps_weaker _ _ _ _ _ _ _ _ _ _ _ (λ text is. (numbers_of c.in-Ok.value, c.in-Ok.ensures.numbers, is))
    (λ none. subst (λ k. durations_of k c.args.nanos.now ≡ None) (sym none.change) refl) c.keep_numbers.ensures
