-- The kind of the program's writers of packets.
use Rattle.std.specs.Prelude.{Bool, true, false}
use Rattle.cadence_errors.specs.declared.SinkError.{SinkError}
use Rattle.cadence_errors.specs.declared.SinkError.TheVariants.{Io, OutOfMemory}
use Rattle.cadence_flow.specs.Sums.{zero_sums}
use Rattle.cadence_flow.specs.Writer.{WriterKind}

-- whether the error comes from the system, or says that memory ran out
abbrev pub is_packet_error : SinkError → Bool
is_packet_error (Io e) = true
is_packet_error OutOfMemory = true
is_packet_error _ = false

-- the kind of a writer that doesn't report its packets
abbrev pub packet_writer_kind : WriterKind
packet_writer_kind = record { may_give = is_packet_error; reports = false; takes_whole = false; start = zero_sums }
