use Rattle.cadence_stage.specs.Held.{nothing_is_held}
use Rattle.cadence_flow.proofs.metric_sink.holds_nothing.Goals as goal

pub returns : goal.returns
returns c = nothing_is_held
