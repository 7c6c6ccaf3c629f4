-- What a line says that is known by its kind and by the lengths of its name and its values.
use Rattle.std.specs.Prelude.{ℕ, ℤ, ◌+◌, List, ◌++◌, drop, take}
use Rattle.cadence_aggregate.specs.Server.{Sample, amount, level, member, timing, unclear, other}
use Rattle.cadence_aggregating.specs.declared.note.Kind.{Kind}
use Rattle.cadence_aggregating.specs.declared.note.Kind.TheVariants.{Amount, Level, Member, Timing, Unclear, Other}

-- the line without its values, and without the byte before them
abbrev pub around : ℕ → ℕ → List ℕ → List ℕ
around name values line = take name line ++ drop (name + 1 + values) line

-- the values
abbrev pub within : ℕ → ℕ → List ℕ → List ℕ
within name values line = take values (drop (name + 1) line)

-- what a line of this kind says, if its name and its values have these lengths
abbrev pub noted : Kind → ℤ → ℕ → ℕ → List ℕ → Sample
noted Amount by name values line = amount (around name values line) by
noted Level by name values line = level (around name values line) (within name values line)
noted Member by name values line = member line
noted Timing by name values line = timing (around name values line) (within name values line)
noted Unclear by name values line = unclear line
noted Other by name values line = other line
