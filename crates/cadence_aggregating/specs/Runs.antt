-- Which lines of a run were accepted.
use Rattle.std.specs.Prelude.{ℕ, List, [], ◌∷◌, ◌++◌, Result, Ok, Err}
use Rattle.cadence_errors.specs.declared.SinkError.{SinkError}
use Rattle.cadence_aggregating.specs.declared.runs.Step.{Step}
use Rattle.cadence_aggregating.specs.declared.runs.Step.TheVariants.{Add, Flush}

-- the line of a step that got this reply, if it was accepted
abbrev pub accepted_line : Step → Result (Unit {0}) SinkError → List (List ℕ)
accepted_line (Add line) (Ok done) = line.now ∷ []
accepted_line (Add line) (Err fault) = []
accepted_line Flush reply = []

-- the accepted lines of a run, in order, given the replies of its steps
abbrev pub accepted_lines : List Step → List (Result (Unit {0}) SinkError) → List (List ℕ)
accepted_lines [] replies = []
accepted_lines (step ∷ steps) [] = []
accepted_lines (step ∷ steps) (reply ∷ replies) = accepted_line step reply ++ accepted_lines steps replies
