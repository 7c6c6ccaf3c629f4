-- What holds of each run with an aggregator, in the terms of the headline, the main theorem on runs without one.
use Rattle.std.specs.Prelude.{◌≡◌, ◌-◌, List, [], Ok, Some, length, slice_get, string_bytes, true}
use Rattle.std.specs.Option.{option_map}
use Rattle.cadence_aggregate.specs.Aggregate.{held}
use Rattle.cadence_aggregate.specs.Server.{Sample}
use Rattle.cadence_aggregating.specs.Past.{Summarizes}
use Rattle.cadence_flow.specs.Writer.{PacketHistory}
use Rattle.cadence_schedule.specs.Headline.{Given, HasReplies, turns_of, kept_of}
use Rattle.cadence_schedule.specs.Packed.{ArePacked, lines_in}
use Rattle.cadence_schedule.specs.Report.{Outcome}
use Rattle.cadence_schedule.specs.Asked.{AskAll}
use Rattle.cadence_stage.specs.Call.{Call}
use Rattle.cadence_schedule.specs.declared.aggregated_report.AggregatedReport.{AggregatedReport}
use Rattle.cadence_schedule.specs.declared.steps.Reply.TheVariants as reply
use Rattle.cadence_schedule.specs.declared.steps.Step.TheVariants as step

-- the outcome that a report shows
abbrev pub outcome_shown : {W A : Type 0} → AggregatedReport W A → Outcome W A
outcome_shown report = record {
  replies = report.replies.items;
  cut = report.cut.items;
  held = report.held.items;
  queue = report.queue;
  in_hand = option_map string_bytes report.in_hand;
  stats = report.stats;
  writer = report.writer;
}

-- what is said by the lines that the aggregator of a report holds
abbrev pub held_in_report : {W A : Type 0} → AggregatedReport W A → List Sample
held_in_report report = held report.aggregator

-- In a run with an aggregator the aggregator answers hands and flushes, and not the packer over the writer. So the kind of
-- the writer, by which `HasReplies` judges these answers, is replaced by that of an aggregator: it takes each line whole or
-- refuses it, and an error may be any.
abbrev pub with_aggregator : {A : Type 0} → Given A → Given A
with_aggregator given = record given {
  kind = record given.kind { may_give = λ e. true; takes_whole = true };
}

module _ {W A : Type 0} (history : W → PacketHistory) (given : Given A) (outcome : Outcome W A) where
  -- The packer was asked all of this, and holds what these samples say.
  pub record HasAggregated (summed : List Sample) (all : List Call) : Type 0 where
    -- Each reply has its stated cause, and the queue, its counts and the hand are left as the steps and replies say.
    pub replies : HasReplies history (with_aggregator given) outcome
    -- A hand made the packer keep lines, and a flush made it keep lines and then flush. If one failed, the last thing
    -- that it asked was refused, or memory ran out.
    pub asked : AskAll (turns_of history given outcome) all
    -- The packets and then the held text are the frames of the lines that the packer kept, and the cut is as tight.
    pub packed : ArePacked history given outcome all
    -- The lines that the packer kept, with what the aggregator holds, are a summary of the accepted lines that were
    -- taken and handed on with the result Ok: a server knows the same after both.
    pub summary : Summarizes (kept_of history given outcome) (lines_in all) summed
    -- If the last step is a flush that returned Ok, the aggregator holds nothing.
    pub flushed : let turns = turns_of history given outcome in
        slice_get turns (length turns - 1) ≡ Some (step.Flush, reply.Flushed (Ok tt)) → summed ≡ []
