use Rattle.cadence_aggregating.specs.Results.{is_result_of}
use Rattle.cadence_aggregating.proofs.locked.called.steps.Goals as goal

pub returns : goal.returns
returns c = is_result_of
