use Rattle.std.proofs.Common.{◌*◌, ◌^◌, ◌∙◌, true, false, ap}
use lib.Ieee.{binary64, is_nan, neg, round}
use Rattle.fast_float.proofs.Patterns.{neg-round}
use Rattle.cadence_float.proofs.Floats.{round_number, number_from}
use Rattle.cadence_float.proofs.float.read_back.Goals as goal

pub returns-then-negative-clause-value : goal.returns-then-negative-clause-value
returns-then-negative-clause-value c =
    rw c.if-negative.true (ap neg c.from_decimal-size.ensures ∙ neg-round binary64 _ _ ∙ ap (λ k. round binary64 true (c.args.digits * 10 ^ 0) (10 ^ k)) c.from.ensures)

pub returns-then-negative-clause-number : goal.returns-then-negative-clause-number
returns-then-negative-clause-number c =
    number_from _ (ap is_nan (ap neg c.from_decimal-size.ensures ∙ neg-round binary64 _ _) ∙ round_number binary64 true _ _)

pub returns-else-negative-clause-number : goal.returns-else-negative-clause-number
returns-else-negative-clause-number c =
    number_from _ (ap is_nan c.from_decimal-size.ensures ∙ round_number binary64 false _ _)
