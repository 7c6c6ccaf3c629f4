-- A call by a key makes no line, but it counts as a line.
use Rattle.std.specs.Prelude.{ℕ, List}
use Rattle.cadence_aggregating.specs.Keys.{line_of_counter, line_of_gauge}
use Rattle.cadence_aggregating.specs.declared.call.KeyedCall.{KeyedCall}
use Rattle.cadence_aggregating.specs.declared.call.KeyedCall.TheVariants.{Raise, Set}

-- the line that a call by a key counts as: the line of the key's context and the call's number
abbrev pub line_of_keyed : KeyedCall → List ℕ
line_of_keyed (Raise key by) = line_of_counter key.now by
line_of_keyed (Set key value) = line_of_gauge key.now value
