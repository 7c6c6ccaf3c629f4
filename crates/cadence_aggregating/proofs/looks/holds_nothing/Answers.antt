use Rattle.cadence_queuing.specs.Look.{stage_at}
use Rattle.cadence_aggregating.proofs.Records.{emptied}
use Rattle.cadence_aggregating.proofs.looks.holds_nothing.Goals as goal

pub returns : goal.returns
returns g c = emptied c.requires.0 (stage_at c.args.look.now) c.args.flushed.now c.requires.1
