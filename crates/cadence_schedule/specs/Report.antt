-- The outcome of a run, as its report shows it.
use Rattle.std.specs.Prelude.{ℕ, List, Option, string_bytes}
use Rattle.std.specs.Option.{option_map}
use Rattle.std.specs.declared.string.String.{String}
use Rattle.cadence_queue.specs.QueueState.{Queue}
use Rattle.cadence_flow.specs.declared.stats.SinkStats.{SinkStats}
use Rattle.cadence_schedule.specs.declared.reports.Report.{Report}
use Rattle.cadence_schedule.specs.declared.steps.Reply.{Reply}

-- the outcome of a run
pub record Outcome (W A : Type 0) : Type 0 where
  -- the replies, one for each step
  pub replies : List Reply
  -- how many lines each packet has, and then the held text
  pub cut : List ℕ
  -- the text that the packer still holds
  pub held : List ℕ
  -- the queue as it was left
  pub queue : Queue (String A)
  -- the line that was taken and not yet handed on
  pub in_hand : Option (List ℕ)
  -- the bytes and packets that the writer took and refused during the run, modulo 2 to the 64
  pub stats : SinkStats
  -- the writer as it was left
  pub writer : W

-- the outcome that a report shows
abbrev pub outcome_of : {W A : Type 0} → Report W A → Outcome W A
outcome_of report = record {
  replies = report.replies.items;
  cut = report.cut.items;
  held = report.held.items;
  queue = report.queue;
  in_hand = option_map string_bytes report.in_hand;
  stats = report.stats;
  writer = report.writer;
}
