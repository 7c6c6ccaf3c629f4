-- What contracts say of a writer with a record of its packets.
use Rattle.std.specs.Prelude.{ℕ, true, List, map, take}
use Rattle.cadence_flow.specs.Offers.{Offer}
use Rattle.cadence_flow.specs.Writer.{PacketHistory, WriterKind}
use Rattle.cadence_flow.specs.declared.recorded_writer.RecordedWriter.{RecordedWriter}

module _ {W : Type 0} where
  -- the writer without its record
  abbrev pub writer_of : RecordedWriter W → W
  writer_of t = t.inner

  -- the packets that were offered and not refused, each with the number of its bytes that the writer took
  abbrev pub offers_of : RecordedWriter W → List Offer
  offers_of t = t.offers.items

  -- the packets that the writer took
  abbrev pub packets_of : RecordedWriter W → List (List ℕ)
  packets_of t = map (λ p. take p.1 p.0) (offers_of t)

  -- the history of a recorded writer: the packets of its record, and the refusals of the writer below it
  abbrev pub recorded_history : (W → PacketHistory) → RecordedWriter W → PacketHistory
  recorded_history history t =
      record { packets = packets_of t; refusals = (history (writer_of t)).refusals; refused_bytes = (history (writer_of t)).refused_bytes }

  -- the kind of a recorded writer: that of the writer below it, except that it always reports its packets
  abbrev pub recorded_kind : (W → WriterKind) → RecordedWriter W → WriterKind
  recorded_kind kind t = record (kind (writer_of t)) { reports = true }
