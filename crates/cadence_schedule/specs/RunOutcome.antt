-- For proofs: the outcome of a run after its last step, in the contract of a private function.
use Rattle.std.specs.Prelude.{Vec, string_bytes}
use Rattle.std.specs.Option.{option_map}
use Rattle.cadence_flow.specs.declared.io.counting.CountingWriter.{CountingWriter}
use Rattle.cadence_schedule.specs.declared.packing.Packing.{Packing}
use Rattle.cadence_schedule.specs.declared.running.Running.{Running}
use Rattle.cadence_schedule.specs.declared.steps.Reply.{Reply}
use Rattle.cadence_schedule.specs.Report.{Outcome}

-- the outcome of a run, from its last state, its packer and its replies
abbrev pub outcome_after : {S W A : Type 0} → Running S A → Packing (CountingWriter W) A → Vec Reply A → Outcome W A
outcome_after run packing replies = record {
  replies = replies.items;
  cut = packing.cut.items;
  held = packing.packer.held;
  queue = run.queue;
  in_hand = option_map string_bytes run.in_hand;
  stats = packing.packer.writer.stats;
  writer = packing.packer.writer.inner;
}
