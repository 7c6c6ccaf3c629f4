-- Where the lines come from that an aggregator sends.
use Rattle.std.specs.Prelude.{◌≡◌, ◌≤◌, ◌⊎◌, ◌+◌, ℕ, true, List, length, All, Contains}
use Rattle.cadence_text.specs.declared.line.MetricType.{MetricType}
use Rattle.cadence_text.specs.declared.line.MetricType.TheVariants.{Counter}
use Rattle.cadence_aggregating.specs.Printed.{spliced}
use Rattle.cadence_aggregating.specs.Says.{IsContext, is_timed}

-- One of the lines has this context, with any values.
abbrev pub HasContext : List (List ℕ) → List ℕ → Type 0
HasContext lines context = (values : List ℕ) × Contains lines (spliced context values)

-- The line is no longer than the limit, or an accepted line is as long.
abbrev pub IsNoLonger : ℕ → List (List ℕ) → List ℕ → Type 0
IsNoLonger limit accepted line = (most : ℕ) → limit ≤ most → All (λ other. length other ≤ most) accepted → length line ≤ most

-- The line has the context of one of the accepted lines. It is that of a counter, which has at most 21 bytes more than its
-- context, because a sum has at most 20; or that of a timer, a histogram or a distribution, which is no longer than the
-- limit, unless an accepted line is as long.
pub record IsMadeOf (limit : ℕ) (accepted : List (List ℕ)) (line : List ℕ) : Type 0 where
  pub kind : MetricType
  pub context : List ℕ
  pub values : List ℕ
  pub is : IsContext kind context
  pub whole : line ≡ spliced context values
  pub accepted_before : HasContext accepted context
  pub size : ((kind ≡ Counter) × (length line ≤ length context + 21)) ⊎ ((is_timed kind ≡ true) × IsNoLonger limit accepted line)

-- A line that was sent is one of the accepted lines, unchanged, or was made of them.
abbrev pub ComesFrom : ℕ → List (List ℕ) → List ℕ → Type 0
ComesFrom limit accepted line = Contains accepted line ⊎ IsMadeOf limit accepted line
