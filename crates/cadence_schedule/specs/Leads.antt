-- What calls of an aggregator do to the packer behind it.
use Rattle.std.specs.Prelude.{◌≡◌, ℕ, List, ◌++◌, map, Result}
use Rattle.cadence_stage.specs.OwnLog.{items_of}
use Rattle.cadence_aggregate.specs.Server.{Sample}
use Rattle.cadence_aggregating.specs.Notes.{line_of_note, sample_of_note}
use Rattle.cadence_errors.specs.declared.SinkError.{SinkError}
use Rattle.cadence_flow.specs.Writer.{PacketHistory, WriterKind}
use Rattle.cadence_schedule.specs.Asked.{AsksLine}
use Rattle.cadence_schedule.specs.PackedRuns.{Packs, view_of}
use Rattle.cadence_stage.specs.Call.{Call}
use Rattle.cadence_stage.specs.Past.{taken_in}
use Rattle.cadence_aggregate.specs.Led.{AllLead}
use Rattle.cadence_schedule.specs.Calls.{texts_in}
use Rattle.cadence_schedule.specs.declared.packer_sink.PackerSink.{PackerSink}

-- what is said by the lines that a sink took
abbrev pub sent_by : {P A : Type 0} → PackerSink P A → List Sample
sent_by sink = map sample_of_note (items_of sink.notes)

-- the lines that a sink took
abbrev pub lines_by : {P A : Type 0} → PackerSink P A → List (List ℕ)
lines_by sink = map line_of_note (items_of sink.notes)

module _ {P A : Type 0} (kind : P → WriterKind) (history : P → PacketHistory) where
  -- The packer was asked this, in order, and the sink took the lines of it that the packer kept.
  pub record SinkPacks (old new : PackerSink P A) (asked : List Call) : Type 0 where
    pub lines : lines_by new ≡ lines_by old ++ texts_in (taken_in asked)
    pub sends : AllLead (Packs kind history) (view_of old.packing) asked (view_of new.packing)

  -- A call that gave the sink lines, and had this result, leads from one state of it to the other.
  pub record LeadsSink (old : PackerSink P A) (result : Result (Unit {0}) SinkError) (new : PackerSink P A) : Type 0 where
    pub asked : List Call
    pub asks : AsksLine result asked
    pub packs : SinkPacks old new asked
