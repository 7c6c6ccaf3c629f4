use Rattle.std.proofs.Common.{inr}
use Rattle.cadence_host.specs.Calls.{IsNumberOfFloat}
use Rattle.cadence_host.proofs.Lists.{pairs_count}
use Rattle.cadence_value.specs.Values.{numbers_of}
use Rattle.cadence_c.proofs.Results.{keeps_weaker, no_change}
use Rattle.cadence_c.proofs.metrics.cadence_floating.Goals as goal

pub returns-in-Ok : goal.returns-in-Ok
returns-in-Ok c =
    keeps_weaker _ _ _ _ _ _ _ _ _ _ _ (λ text is. (numbers_of c.in-Ok.value, c.in-Ok.ensures.numbers, is))
    (λ none. inr (no_change c.args.kind c.args.values.now (numbers_of c.in-Ok.value)
    (pairs_count (IsNumberOfFloat c.args.kind) c.args.values.now (numbers_of c.in-Ok.value) c.in-Ok.ensures.numbers) none)) c.keep_numbers.ensures
