-- What contracts see of a line that a worker handed to a sink.
use Rattle.std.specs.Prelude.{List, ℕ, string_bytes}
use Rattle.cadence_queuing.specs.declared.handed.Handed.{Handed}

-- the line that was handed to a sink
abbrev pub handed_line : {S A : Type 0} {s : _} → Handed S A s → List ℕ
handed_line h = string_bytes h.line.value
