-- What an aggregating sink answers.
use Rattle.std.specs.Prelude.{◌≡◌, ℕ, List, length, Result, MatchResult}
use Rattle.cadence_errors.specs.declared.SinkError.{SinkError}

-- The answer is the length of the line, or an error.
abbrev pub IsAggregated : List ℕ → Result ℕ SinkError → Type 0
IsAggregated line answer = MatchResult answer (λ n. n ≡ length line) (λ _. Unit {0})
