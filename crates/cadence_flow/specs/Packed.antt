-- What a packer is by its calls, over a writer that records its packets.
use Rattle.std.specs.Prelude.{◌≡◌, true, List, [], ◌++◌}
use Rattle.cadence_stage.specs.Call.{Call}
use Rattle.cadence_flow.specs.Cut.{IsCut, bytes_taken}
use Rattle.cadence_flow.specs.Frame.{taken_stream}
use Rattle.cadence_flow.specs.Packer.{Packer}
use Rattle.cadence_stage.specs.Past.{is_flushed, taken_in}
use Rattle.cadence_flow.specs.RecordedWriter.{offers_of}
use Rattle.cadence_flow.specs.declared.recorded_writer.RecordedWriter.{RecordedWriter}

-- The packer is as these calls make it, the oldest first.
pub record IsPacked {W : Type 0} (p : Packer (RecordedWriter W)) (past : List Call) : Type 0 where
  -- the packets that the writer took, joined, and then the held text are the frames of the lines that were taken, in order
  pub stream : bytes_taken (offers_of p.writer) ++ p.held ≡ taken_stream p.format (taken_in past)
  -- a packet that the writer took whole, with no short count since the packet before it, is whole frames
  pub cut : IsCut p.format (offers_of p.writer) (taken_in past) p.held
  -- after a flush that succeeded nothing is held
  pub flushed : is_flushed past ≡ true → p.held ≡ []
