-- What the constructors of the metric types return.
use Rattle.std.specs.Prelude.{ℕ, List, [], ◌∷◌, ◌++◌, Result}
use Rattle.cadence_errors.specs.declared.MetricError.{MetricError}
use Rattle.cadence_errors.specs.Errors.{Makes}
use Rattle.cadence_text.specs.declared.line.MetricType.{MetricType}
use Rattle.cadence_text.specs.Line.{line_of}
use Rattle.cadence_text.specs.Metric.{plain_metric}
use Rattle.cadence_value.specs.Number.{Number}

-- The result is the line of one number of this kind, whose name is the prefix and then the key, or memory ran out.
abbrev pub MakesLine : MetricType → List ℕ → List ℕ → Number → Result (List ℕ) MetricError → Type 0
MakesLine kind prefix key number result = Makes (line_of (plain_metric (prefix ++ key) (number ∷ []) kind)) result
