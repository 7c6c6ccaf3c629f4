use Rattle.cadence_script.specs.Words.{bytes_left}
use Rattle.cadence_script.proofs.calls.call_of.Given as goal

abbrev pub decreases-loop-options : goal.decreases-loop-options
decreases-loop-options g l = bytes_left l.words
