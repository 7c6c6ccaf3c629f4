use Rattle.cadence_text.proofs.grammar.LineText.{free_clear}
use Rattle.cadence_text.proofs.laws.free_is_clear.Goals as goal

pub returns : goal.returns
returns c = free_clear
