-- The text that sets a gauge to a number, also to one below 0.
use Rattle.std.specs.Prelude.{ℕ, List, [], ◌∷◌, ◌++◌, codes, if◌then◌else◌}
use Rattle.std.specs.Int.{is_negative}
use Rattle.cadence_text.specs.Line.{line_with}
use Rattle.cadence_text.specs.Metric.{Metric}
use Rattle.cadence_value.specs.Number.{Number, natural, numbers_text}

-- the line that has this number as its value, and all else from the metric
abbrev pub number_line : Number → Metric → List ℕ
number_line n m = line_with (numbers_text (n ∷ [])) m

-- the line that sets 0, a newline, and the line of the number, since most servers read a value with a minus as a change
abbrev pub zero_first : Number → Metric → List ℕ
zero_first n m = number_line (natural 0) m ++ (codes "\n" ++ number_line n m)

-- the text that sets a gauge to this number: its line or, if it is below 0, `zero_first`
abbrev pub level_text : Number → Metric → List ℕ
level_text n m = if is_negative n.mantissa then zero_first n m else number_line n m
