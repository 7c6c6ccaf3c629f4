use Rattle.cadence_settings.proofs.calls.CallOptions.{chosen-metric_of_call}
use Rattle.cadence_settings.proofs.laws.an_option_is_chosen.Goals as goal

pub returns : goal.returns
returns c = chosen-metric_of_call
