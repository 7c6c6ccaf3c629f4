-- A writer for tests: it doesn't tell its packets, takes each of them whole, and returns no error.
use Rattle.std.specs.Prelude.{false, true, []}
use Rattle.cadence_flow.specs.Sums.{zero_sums}
use Rattle.cadence_flow.specs.Writer.{PacketHistory, WriterKind}

-- the history of a writer that doesn't tell: no packet and no refusal
abbrev pub no_history : PacketHistory
no_history = record { packets = []; refusals = 0; refused_bytes = 0 }

-- the kind of such a writer
abbrev pub silent_kind : WriterKind
silent_kind = record { may_give = λ _. false; reports = false; takes_whole = true; start = zero_sums }
