use Rattle.std.proofs.Common.{rules}
use Rattle.std.proofs.lemmas.Result.{IfOk-weaker}
use Rattle.cadence_c.proofs.environment.read_destination.Goals as goal

pub returns-clause-place : goal.returns-clause-place
returns-clause-place c =
    let read = c.in_ok-variables.ensures.read in
    IfOk-weaker c.from_variables.result _ _ (λ e says v has. search rules) c.from_variables.ensures.place
