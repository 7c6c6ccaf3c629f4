-- What was sent and what is held, in place of the lines that were accepted.
use Rattle.std.specs.Prelude.{ℕ, List, ◌++◌}
use Rattle.std.specs.List.{AllZip}
use Rattle.cadence_aggregate.specs.Server.{Sample, IsSummary}
use Rattle.cadence_aggregate.specs.Within.{StayWithin}
use Rattle.cadence_aggregating.specs.Says.{LineSays}

-- What was sent, with what is held, is a summary of what the accepted lines say.
abbrev pub SumsUp : List (List ℕ) → List Sample → List Sample → Type 0
SumsUp accepted sent held = (said : List Sample) × AllZip LineSays accepted said × IsSummary said (sent ++ held)

-- The same, and no line of values that was sent or is held is longer than the limit, unless an accepted one is as long.
abbrev pub SumsUpWithin : ℕ → List (List ℕ) → List Sample → List Sample → Type 0
SumsUpWithin limit accepted sent held =
    (said : List Sample) × AllZip LineSays accepted said × IsSummary said (sent ++ held) × StayWithin limit said (sent ++ held)

-- The sent lines, with what is held, are a summary of the accepted lines.
abbrev pub Summarizes : List (List ℕ) → List (List ℕ) → List Sample → Type 0
Summarizes accepted sent held = (said : List Sample) × AllZip LineSays sent said × SumsUp accepted said held
