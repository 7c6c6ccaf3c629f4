use Rattle.cadence_text.proofs.writing.LineLength.{change_short}
use Rattle.cadence_text.proofs.line.draft.text.push_text_value.Goals as goal

pub returns-in-Change-clause-sized : goal.returns-in-Change-clause-sized
returns-in-Change-clause-sized g c = rw c.in-Change.is (change_short c.in-Change.number c.push_change.ensures.sized)
