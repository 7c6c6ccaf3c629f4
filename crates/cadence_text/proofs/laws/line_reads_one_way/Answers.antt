use Rattle.cadence_text.proofs.grammar.LineText.{line_once}
use Rattle.cadence_text.proofs.laws.line_reads_one_way.Goals as goal

pub returns : goal.returns
returns c = line_once
