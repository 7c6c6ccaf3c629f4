-- Where the text of a line stops being one that a metric's line can have.
use Rattle.std.specs.Prelude.{◌≡◌, ◌<◌, ◌≤◌, ℕ, List, ◌++◌, length, take}
use Rattle.cadence_text.specs.Line.{line_of}
use Rattle.cadence_text.specs.Metric.{Metric}
use Rattle.cadence_text.specs.Owned.{metric_of_owned}
use Rattle.cadence_read.specs.Listed.{IsListed, IsMetricOf}
use Rattle.cadence_value.specs.Finds.{HasNone}
use Rattle.cadence_listen.specs.declared.place.Reading.{Reading}
use Rattle.cadence_listen.specs.declared.place.Reading.TheVariants.{Read, Unread}

-- The line of some metric begins with the text.
abbrev pub CanBegin : List ℕ → Type 0
CanBegin text = (rest : List ℕ) × (metric : Metric) × IsListed metric × (line_of metric ≡ text ++ rest)

-- The line of some metric begins with this many bytes of the text.
pub record IsPlace (line : List ℕ) (at : ℕ) : Type 0 where
  pub within : at ≤ length line
  pub begins : 0 < at → CanBegin (take at line)

-- If a metric was read, this is its line. Otherwise no metric has this line, and the place is one up to which the line of
-- some metric is the same.
abbrev pub ReadsLine : {Z : Type 0} → List ℕ → Reading Z → Type 0
ReadsLine line (Read metric) = IsMetricOf line (metric_of_owned metric)
ReadsLine line (Unread at) = HasNone (IsMetricOf line) × IsPlace line at
