use Rattle.cadence_text.proofs.grammar.LineText.{packet_once}
use Rattle.cadence_text.proofs.laws.packet_reads_one_way.Goals as goal

pub returns : goal.returns
returns c = packet_once
