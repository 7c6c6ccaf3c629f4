-- What contracts say of a packer with the log of its calls.
use Rattle.std.specs.Prelude.{◌≡◌, ℕ, List, [], ◌∷◌, ◌++◌, map, codes}
use Rattle.cadence_stage.specs.OwnLog.{items_of}
use Rattle.cadence_stage.specs.Call.{Call, Line, Flush, call_of}
use Rattle.cadence_flow.specs.Packer.{FlushesHeld, Packer, WritesLine, new_packer}
use Rattle.cadence_flow.specs.RecordedWriter.{writer_of, offers_of, recorded_history, recorded_kind}
use Rattle.cadence_flow.specs.Writer.{PacketHistory, WriterKind}
use Rattle.cadence_flow.specs.declared.packer.RecordedPacker.{RecordedPacker}
use Rattle.cadence_flow.specs.declared.recorded_writer.RecordedWriter.{RecordedWriter}

module _ {W A : Type 0} where
  -- the packer, over the writer that records its packets
  abbrev pub packer_of : RecordedPacker W A → Packer (RecordedWriter W)
  packer_of p = p.lines

  -- the calls of the packer, the oldest first
  abbrev pub past_of : RecordedPacker W A → List Call
  past_of p = map call_of (items_of p.log)

  -- The packer is new: it holds nothing, and this writer was offered nothing.
  abbrev pub begins_over : RecordedPacker W A → W → ℕ → Type 0
  begins_over p writer capacity =
      (packer_of p ≡ new_packer (packer_of p).writer capacity (codes "\n"))
      × (writer_of (packer_of p).writer ≡ writer)
      × (offers_of (packer_of p).writer ≡ [])

  module _ (kind : W → WriterKind) (history : W → PacketHistory) (old new : RecordedPacker W A) where
    -- The packer wrote a line, or was flushed, with this result.
    abbrev pub Calls : Call → Type 0
    Calls (Line line answer) = WritesLine (recorded_kind kind) (recorded_history history) (packer_of old) (packer_of new) line answer
    Calls (Flush answer) = FlushesHeld (recorded_kind kind) (recorded_history history) (packer_of old) (packer_of new) answer

    -- The packer was called so, and its log has just this call more.
    pub record IsPackerStep (call : Call) : Type 0 where
      pub logged : past_of new ≡ past_of old ++ call ∷ []
      pub made : Calls call
