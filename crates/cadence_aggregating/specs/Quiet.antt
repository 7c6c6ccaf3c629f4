-- When a line is held, so that no line is sent.
use Rattle.std.specs.Prelude.{◌≡◌, ℕ, List, length}
use Rattle.cadence_aggregate.specs.Aggregate.{CanHold}
use Rattle.cadence_aggregate.specs.Lines.{sample_of}
use Rattle.cadence_aggregate.specs.declared.aggregator.Aggregator.{Aggregator}
use Rattle.cadence_aggregate.specs.declared.line.Line.{Line}
use Rattle.cadence_aggregating.specs.Says.{LineSays}
use Rattle.cadence_aggregating.specs.ToHold.{IsToHold}
use Rattle.cadence_aggregating.specs.declared.limits.Limits.{Limits}

-- The line says something, and if that is to be held, and can be held without sending a line, then nothing changed below:
-- the second is the state after the call, and the first the one before it.
abbrev pub IsQuiet : {X : Type 0} → Limits → Aggregator → List ℕ → X → X → Type 0
IsQuiet limits aggregator line before after =
    (said : Line) × LineSays line (sample_of said) × (IsToHold limits said (length line) → CanHold aggregator said → after ≡ before)
