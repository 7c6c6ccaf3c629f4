-- The lines that were accepted, as the record has them.
use Rattle.std.specs.Prelude.{ℕ, ℤ, List, map}
use Rattle.cadence_aggregate.specs.Server.{Sample, amount, level, member, timing, unclear, other}
use Rattle.cadence_stage.specs.Call.{only_text}
use Rattle.cadence_aggregating.specs.Printed.{line_saying}
use Rattle.cadence_aggregating.specs.declared.accepted.Accepted.{Accepted}
use Rattle.cadence_aggregating.specs.declared.note.Kind.{Kind}
use Rattle.cadence_aggregating.specs.declared.note.Kind.TheVariants.{Amount, Level, Member, Timing, Unclear, Other}

-- what a line of this kind says of this context and with these values
abbrev pub said_of_parts : Kind → ℤ → List ℕ → List ℕ → Sample
said_of_parts Amount by context values = amount context by
said_of_parts Level by context values = level context values
said_of_parts Member by context values = member context
said_of_parts Timing by context values = timing context values
said_of_parts Unclear by context values = unclear context
said_of_parts Other by context values = other context

-- what an entry of the record says
abbrev pub said_by_entry : Accepted → Sample
said_by_entry a = said_of_parts a.kind a.by (only_text a.context.items) (only_text a.values.items)

-- the line of an entry of the record
abbrev pub line_of_entry : Accepted → List ℕ
line_of_entry a = line_saying (said_by_entry a)

-- the lines of the entries of a record
abbrev pub lines_of_entries : List Accepted → List (List ℕ)
lines_of_entries entries = map line_of_entry entries
