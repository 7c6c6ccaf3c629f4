use Rattle.cadence.proofs.SendingLemmas.{stands_for_more}
use Rattle.cadence.proofs.laws.choosing_stands_for_more.Goals as goal

pub returns : goal.returns
returns c = stands_for_more
