-- What a call of the sums before a packer does: to what they hold, and to the packer.
use Rattle.std.specs.Prelude.{◌≡◌, List, [], ◌∷◌, ◌++◌, length, true}
use Rattle.std.specs.List.{AllByRecursion, AllZip}
use Rattle.cadence_aggregate.specs.Aggregate.{held}
use Rattle.cadence_aggregate.specs.Server.{Sample, IsSummary}
use Rattle.cadence_aggregating.specs.Says.{LineSays}
use Rattle.cadence_flow.specs.Writer.{PacketHistory, WriterKind}
use Rattle.cadence_schedule.specs.Asked.{AsksCall}
use Rattle.cadence_schedule.specs.Leads.{SinkPacks, sent_by}
use Rattle.cadence_stage.specs.Call.{Call}
use Rattle.cadence_stage.specs.Past.{is_flush, taken_in}
use Rattle.cadence_schedule.specs.Calls.{texts_in}
use Rattle.cadence_schedule.specs.declared.packed_sums.PackedSums.{PackedSums}

-- The call leads the sums and the packer behind them from the old state to the new one.
pub record SumsCall {P A : Type 0} (kind : P → WriterKind) (history : P → PacketHistory) (old : PackedSums P A) (call : Call) (new : PackedSums P A) : Type 0 where
  -- A line that was taken was taken whole.
  pub whole : AllByRecursion (λ k. k.1 ≡ length k.0) (taken_in (call ∷ []))
  -- what the packer was asked
  pub asked : List Call
  pub asks : AsksCall call asked
  pub packs : SinkPacks kind history old.sink new.sink asked
  -- what the accepted line says, if there is one
  pub said : List Sample
  pub says : AllZip LineSays (texts_in (taken_in (call ∷ []))) said
  -- What was sent and what is held are a summary of what they were before, with what was said.
  pub summary : IsSummary ((sent_by old.sink ++ held old.lines.aggregator) ++ said) (sent_by new.sink ++ held new.lines.aggregator)
  -- After a flush that succeeded nothing is held.
  pub flushed : is_flush call ≡ true → held new.lines.aggregator ≡ []
