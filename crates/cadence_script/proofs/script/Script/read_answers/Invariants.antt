use Rattle.cadence_script.specs.Words.{bytes_left}
use Rattle.cadence_script.proofs.script.Script.read_answers.Given as goal

abbrev pub decreases-loop-answers : goal.decreases-loop-answers
decreases-loop-answers g l = bytes_left l.words
