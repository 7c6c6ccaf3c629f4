-- The headline of a whole run, from its first state, its steps and its outcome.
use Rattle.std.proofs.Common.{◌≡◌, ℕ, ◌+◌, ◌%◌, ◌^◌, ◌<◌, ◌≤◌, List, ◌++◌, length, sym, ap, ◌∙◌, arith, subst, true, Option, Vec, map}
use Rattle.std.specs.List.{AllByRecursion, zip}
use Rattle.std.specs.Prelude.{All, IsTrue, codes}
use Rattle.std.proofs.lemmas.List.{length-map}
use Rattle.cadence_flow.specs.Frame.{Format, size_of, stream, taken_stream}
use Rattle.cadence_flow.specs.Writer.{PacketHistory, WriterKind}
use Rattle.cadence_flow.specs.declared.io.counting.CountingWriter.{CountingWriter}
use Rattle.cadence_queue.specs.declared.policy.QueuePolicy.{QueuePolicy}
use Rattle.cadence_text.specs.Line.{line_of}
use Rattle.cadence_text.specs.Metric.{Metric}
use Rattle.cadence_text.specs.OneReading.{IsClear, IsFreeOfSeparators}
use Rattle.cadence_text.specs.Representable.{IsRepresentable}
use Rattle.cadence_settings.specs.CallData.{line_of_data, metric_of_data}
use Rattle.cadence_settings.specs.Laws.{CleanedCallsAreClear, StrictCallsAreClear}
use Rattle.cadence_settings.specs.Settings.{Settings, clears_texts, is_clear_settings}
use Rattle.cadence_settings.specs.declared.call.Call.{Call}
use Rattle.cadence_settings.proofs.calls.FreeTexts.{cleared_data}
use Rattle.cadence_settings.proofs.calls.NonemptyLines.{line_filled}
use Rattle.cadence_schedule.specs.Packed.{ArePacked}
use Rattle.cadence_schedule.specs.Headline.{Given, given_of, packets_between, HasHeadline, IsAccounted, ReportsWhole}
use Rattle.cadence_schedule.specs.Laws.{LeastPackets, PacketsReadOneWay, ReadOneWay}
use Rattle.cadence_schedule.specs.Moves.{at_start}
use Rattle.cadence_schedule.specs.Packets.{ArePacketsOf, ReadsAs}
use Rattle.cadence_schedule.specs.PackedRuns.{Packs, PacksCounted, room_of, view_of}
use Rattle.cadence_schedule.specs.Plan.{NoGroupHasRoom, IsFewest, groups_of}
use Rattle.cadence_schedule.specs.RunHistory.{Turn, accepted, kept, kept_counts, marks, refusals}
use Rattle.cadence_schedule.specs.RunOutcome.{outcome_after}
use Rattle.cadence_schedule.specs.Running.{Runs, queue_state}
use Rattle.cadence_stage.specs.Call as stage
use Rattle.cadence_stage.specs.Past.{taken_in}
use Rattle.cadence_aggregate.specs.Led.{AllLead}
use Rattle.cadence_schedule.specs.Calls.{marks_from, refusals_from, texts_in}
use Rattle.cadence_schedule.specs.declared.packing.Packing.{Packing}
use Rattle.cadence_schedule.specs.declared.running.Running.{Running}
use Rattle.cadence_schedule.specs.declared.steps.Reply.{Reply}
use Rattle.cadence_schedule.specs.declared.steps.Step.{Step}
use Rattle.cadence_schedule.proofs.headline.FinishedRun.{errors_le}
use Rattle.cadence_schedule.proofs.headline.PackedRun.{IsNew, all_packed, answers, counted, inner, packed}
use Rattle.cadence_schedule.proofs.headline.Queued.{Queued}
use Rattle.cadence_schedule.proofs.headline.QueuedRun.{after, all_filled, has_replies, texts_filled}
use Rattle.cadence_schedule.proofs.headline.RunOfTurns.{given_le, length-zip}
use Rattle.cadence_schedule.proofs.history.KeptLines.{length-kept}
use Rattle.cadence_schedule.proofs.history.KeptMetrics.{all_accepted, all_kept, kept_mapped}
use Rattle.cadence_schedule.proofs.packets.PackedLines.{AreFilled}
use Rattle.cadence_schedule.proofs.packets.Refusing.{MayAnswer}

module _ {W A : Type 0} (kind_of : W → WriterKind) (history_of : W → PacketHistory) (settings : Settings) (capacity : ℕ) (ending : List ℕ)
    (queue : Option ℕ) (policy : QueuePolicy) (steps : List (Step A)) (writer : W) where
  abbrev given : Given A
  given = given_of kind_of history_of settings capacity ending queue policy steps writer

  abbrev counts : CountingWriter W → WriterKind
  counts = counted kind_of history_of settings capacity ending queue policy steps writer

  abbrev shows : CountingWriter W → PacketHistory
  shows = inner kind_of history_of settings capacity ending queue policy steps writer

  abbrev pub leads : Packing (CountingWriter W) A → Packing (CountingWriter W) A → stage.Call → Type 0
  leads old new call = PacksCounted counts shows old call new

  module _ (law : (metric : Metric) → 0 < length (line_of metric)) (least : LeastPackets) (first : Packing (CountingWriter W) A)
      (run : Running (Packing (CountingWriter W) A) A) (replies : Vec Reply A)
      (new : IsNew kind_of history_of settings capacity ending queue policy steps writer first)
      (room : length steps ≤ room_of first) (one_each : length replies.items ≡ length steps) (few : length steps < 2 ^ 64)
      (r : Runs leads (line_of_data settings) queue policy first run (zip steps replies.items))
      (bound : length run.stage.packer.held ≤ run.stage.packer.format.capacity)
      (bytes : run.stage.packer.writer.stats.bytes_sent < 2 ^ 64) (packets : run.stage.packer.writer.stats.packets_sent < 2 ^ 64) where
    abbrev lines : Call A → Option (List ℕ)
    lines = line_of_data settings

    abbrev turns : List (Turn A)
    turns = zip steps replies.items

    abbrev format : Format
    format = record { capacity = capacity; ending = ending }

    led : AllLead (Packs counts shows) (view_of first) r.given (view_of run.stage)
    led =
        let short : length turns ≡ length steps = length-zip steps replies.items (sym one_each) in
        all_packed counts shows r.given first run.stage
        (omega (arith, given_le lines queue policy turns at_start (queue_state run) r.given r.goes, short, room)) r.led

    causes : AllByRecursion (MayAnswer given.kind format) r.given
    causes = answers kind_of history_of settings capacity ending queue policy steps writer first run.stage new r.given led

    says : Queued lines given.kind format queue policy turns (queue_state run) r.given
    says = after history_of given leads first run run.stage replies one_each few r causes

    -- what was given and the history say the same of the marks, the refusals and the kept lines
    same : ◌≡◌ {A = List ℕ × List ℕ × List (List ℕ × ℕ)} (marks_from 0 r.given, refusals_from 0 r.given, taken_in r.given)
        (marks lines turns, refusals lines turns, kept_counts lines turns)
    same = λ i. (says.marks_are i, says.refusals_are i, says.kept_is i)

    pack : ArePacked history_of given (outcome_after run run.stage replies) r.given
    pack =
        let short : length turns ≡ length steps = length-zip steps replies.items (sym one_each) in
        packed kind_of history_of settings capacity ending queue policy steps writer first run.stage new r.given led
        (subst AreFilled (sym says.kept_is) (texts_filled (kept_counts lines turns) (all_filled lines (line_filled law settings) turns))) (length steps)
        (omega (arith, ap (λ ks. length ks) says.kept_is, length-map (kept_counts lines turns) (λ (k : List ℕ × ℕ). k.0), length-kept lines turns, short))
        (omega (arith, says.errors_are, errors_le lines turns, short)) few run replies least bound bytes packets

    abbrev before : PacketHistory
    before = history_of writer

    abbrev last : PacketHistory
    last = history_of run.stage.packer.writer.inner

    cut_is : ReportsWhole (kind_of writer)
        → ArePacketsOf format (marks lines turns) (refusals lines turns) (kept lines turns) run.stage.cut.items (packets_between before last) run.stage.packer.held
    cut_is whole =
        subst (λ t. ArePacketsOf format t.0 t.1 (texts_in t.2) run.stage.cut.items (packets_between before last) run.stage.packer.held) same (pack.cut whole)

    -- the headline
    pub has_headline : HasHeadline history_of given (outcome_after run run.stage replies)
    has_headline = record {
      stream = λ whole. pack.stream whole ∙ ap (λ ks. stream format (texts_in ks)) says.kept_is;
      cut = cut_is;
      replies = has_replies history_of given leads first run run.stage replies one_each few r causes;
      errors = λ whole. pack.errors whole ∙ ap (λ n. (before.refusals + n) % 2 ^ 64) says.errors_are;
      fewest = λ whole none. (
        subst (λ t. NoGroupHasRoom capacity t.0 (groups_of run.stage.cut.items (map (size_of format) (texts_in t.2)))) same (pack.tight whole none).no_later,
        subst (λ t. IsFewest capacity t.0 (map (size_of format) (texts_in t.2)) run.stage.cut.items) same (pack.fewest whole none),
      );
    }

    -- the packets are those of the kept metrics, and of no others that have the property, if the kept metrics have it
    reading : (Has : Metric → Type 0) → ReadOneWay Has → ReportsWhole (kind_of writer) → ending ≡ codes "\n"
        → All Has (kept (metric_of_data settings) turns)
        → ReadsAs Has (kept (metric_of_data settings) turns) (packets_between before last) run.stage.packer.held
    reading Has reads whole newline each =
        reads capacity (marks lines turns) (refusals lines turns) run.stage.cut.items (kept (metric_of_data settings) turns)
        (packets_between before last) run.stage.packer.held each
        (subst (λ e. ArePacketsOf record { capacity = capacity; ending = e } (marks lines turns) (refusals lines turns)
        (map line_of (kept (metric_of_data settings) turns)) run.stage.cut.items (packets_between before last) run.stage.packer.held) newline
        (subst (λ ls. ArePacketsOf format (marks lines turns) (refusals lines turns) ls run.stage.cut.items
        (packets_between before last) run.stage.packer.held) (kept_mapped line_of (metric_of_data settings) turns) (cut_is whole)))

    -- of settings that clear texts, the kept metrics are clear
    clear_kept : StrictCallsAreClear → CleanedCallsAreClear → (IsTrue (clears_texts settings) → IsTrue (is_clear_settings settings))
        → clears_texts settings ≡ true → All IsClear (kept (metric_of_data settings) turns)
    clear_kept strict cleaned clear clears =
        all_kept IsClear (metric_of_data settings) turns
        (all_accepted IsClear (metric_of_data settings) (cleared_data settings strict cleaned clears (clear clears)) turns)

    -- what is promised beside it
    pub is_accounted : PacketsReadOneWay → StrictCallsAreClear → CleanedCallsAreClear → (IsTrue (clears_texts settings) → IsTrue (is_clear_settings settings))
        → All IsRepresentable (accepted (metric_of_data settings) turns) → IsAccounted history_of given (outcome_after run run.stage replies)
    is_accounted reads strict cleaned clear each = record {
      late = λ whole.
          subst (λ t. NoGroupHasRoom capacity (t.0 ++ t.1) (groups_of run.stage.cut.items (map (size_of format) (texts_in t.2)))) same (pack.late whole);
      taken = λ reports. pack.taken reports ∙ ap (taken_stream format) says.kept_is;
      held = pack.within;
      stats = pack.stats;
      earlier = pack.earlier;
      representable = all_kept IsRepresentable (metric_of_data settings) turns each;
      one_reading = λ whole newline free. reading IsFreeOfSeparators reads.free whole newline free;
      clear_reading = λ whole newline kept. reading IsClear reads.clear whole newline kept;
      cleared = λ clears. clear_kept strict cleaned clear clears;
      cleared_reading = λ whole newline clears. reading IsClear reads.clear whole newline (clear_kept strict cleaned clear clears);
    }
