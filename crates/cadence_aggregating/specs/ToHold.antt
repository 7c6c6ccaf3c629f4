-- Which lines are to be held.
use Rattle.std.specs.Prelude.{◌≡◌, ◌≤◌, ℕ, true}
use Rattle.cadence_aggregate.specs.declared.line.Line.{Line}
use Rattle.cadence_aggregate.specs.declared.line.Line.TheVariants.{Amount, Level, Member, Timing, Unclear, Other}
use Rattle.cadence_aggregating.specs.declared.limits.Limits.{Limits}

-- A line of this size in bytes, which says this, is to be held.
abbrev pub IsToHold : Limits → Line → ℕ → Type 0
IsToHold limits (Amount c by) size = size ≤ limits.most_bytes
IsToHold limits (Level c value) size = size ≤ limits.most_bytes
IsToHold limits (Member c) size = size ≤ limits.most_bytes
IsToHold limits (Timing c values) size = (size ≤ limits.most_bytes) × (limits.packs_values ≡ true)
IsToHold limits (Unclear line) size = size ≤ limits.most_bytes
IsToHold limits (Other line) size = size ≤ limits.most_bytes
