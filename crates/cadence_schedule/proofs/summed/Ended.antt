-- What a whole run with sums before its packer shows.
use Rattle.std.proofs.Common.{◌≡◌, ℕ, ◌^◌, ◌<◌, ◌≤◌, List, [], ◌++◌, Option, Vec, false, length, map, refl, sym, ap, ◌∙◌, subst, arith}
use Rattle.std.specs.List.{AllByRecursion, zip}
use Rattle.cadence_stage.specs.OwnLog.{items_of}
use Rattle.cadence_aggregate.specs.Aggregate.{held}
use Rattle.cadence_aggregating.specs.Notes.{line_of_note, sample_of_note}
use Rattle.cadence_aggregating.specs.Past.{SumsUp, Summarizes}
use Rattle.cadence_aggregating.proofs.Records.{none_past, summarizes}
use Rattle.cadence_flow.specs.Writer.{PacketHistory, WriterKind}
use Rattle.cadence_flow.specs.declared.io.counting.CountingWriter.{CountingWriter}
use Rattle.cadence_queue.specs.declared.policy.QueuePolicy.{QueuePolicy}
use Rattle.cadence_settings.proofs.calls.NonemptyLines.{line_filled}
use Rattle.cadence_settings.specs.CallData.{line_of_data}
use Rattle.cadence_settings.specs.Settings.{Settings}
use Rattle.cadence_settings.specs.declared.call.Call.{Call}
use Rattle.cadence_text.specs.Line.{line_of}
use Rattle.cadence_text.specs.Metric.{Metric}
use Rattle.cadence_schedule.specs.Aggregated.{HasAggregated, with_aggregator}
use Rattle.cadence_schedule.specs.Asked.{AskAll}
use Rattle.cadence_schedule.specs.Headline.{Given, given_of}
use Rattle.cadence_schedule.specs.Laws.{LeastPackets}
use Rattle.cadence_schedule.specs.Leads.{sent_by}
use Rattle.cadence_schedule.specs.Moves.{at_start}
use Rattle.cadence_schedule.specs.RunHistory.{Turn, kept}
use Rattle.cadence_schedule.specs.RunOutcome.{outcome_after}
use Rattle.cadence_schedule.specs.Running.{Runs, queue_state}
use Rattle.cadence_stage.specs.Call as stage
use Rattle.cadence_stage.specs.Past.{taken_in}
use Rattle.cadence_schedule.specs.Calls.{texts_in}
use Rattle.cadence_schedule.specs.SumsCalls.{SumsCall}
use Rattle.cadence_schedule.specs.declared.packed_sums.PackedSums.{PackedSums}
use Rattle.cadence_schedule.specs.declared.running.Running.{Running}
use Rattle.cadence_schedule.specs.declared.steps.Reply.{Reply}
use Rattle.cadence_schedule.specs.declared.steps.Step.{Step}
use Rattle.cadence_schedule.proofs.headline.PackedRun.{IsNew, counted, inner, packed}
use Rattle.cadence_schedule.proofs.headline.RunOfTurns.{length-zip}
use Rattle.cadence_schedule.proofs.headline.QueuedRun.{after, all_filled, has_replies}
use Rattle.cadence_schedule.proofs.history.KeptLines.{length-kept}
use Rattle.cadence_schedule.proofs.packets.Refusing.{MayAnswer}
use Rattle.cadence_schedule.proofs.summed.EachCall.{Summed, any_answer, ask_all, ends_in_flush, flushed_in, summed}
use Rattle.cadence_schedule.proofs.summed.Erring.{few_errors}
use Rattle.cadence_schedule.proofs.summed.Filled.{kept_filled, no_more_kept}

module _ {W A : Type 0} (kind_of : W → WriterKind) (history_of : W → PacketHistory) (settings : Settings) (capacity : ℕ) (ending : List ℕ)
    (queue : Option ℕ) (policy : QueuePolicy) (steps : List (Step A)) (writer : W) where
  abbrev given : Given A
  given = given_of kind_of history_of settings capacity ending queue policy steps writer

  abbrev counts : CountingWriter W → WriterKind
  counts = counted kind_of history_of settings capacity ending queue policy steps writer

  abbrev shows : CountingWriter W → PacketHistory
  shows = inner kind_of history_of settings capacity ending queue policy steps writer

  abbrev pub leads : PackedSums (CountingWriter W) A → PackedSums (CountingWriter W) A → stage.Call → Type 0
  leads old new call = SumsCall counts shows old call new

  module _ (law : (metric : Metric) → 0 < length (line_of metric)) (least : LeastPackets) (first : PackedSums (CountingWriter W) A)
      (run : Running (PackedSums (CountingWriter W) A) A) (replies : Vec Reply A)
      (new : IsNew kind_of history_of settings capacity ending queue policy steps writer first.sink.packing)
      (none_held : held first.lines.aggregator ≡ []) (none_noted : items_of first.sink.notes ≡ [])
      (one_each : length replies.items ≡ length steps) (few : length steps < 2 ^ 64)
      (r : Runs leads (line_of_data settings) queue policy first run (zip steps replies.items)) where
    abbrev lines : Call A → Option (List ℕ)
    lines = line_of_data settings

    abbrev turns : List (Turn A)
    turns = zip steps replies.items

    abbrev summing : PackedSums (CountingWriter W) A
    summing = run.stage

    begun : SumsUp [] (sent_by first.sink) (held first.lines.aggregator)
    begun = subst (λ h. SumsUp [] (sent_by first.sink) h) (sym none_held) (subst (λ ns. SumsUp [] (map sample_of_note ns) []) (sym none_noted) none_past)

    pub calls : Summed counts shows first summing [] r.given
    calls = summed counts shows r.given [] first summing begun r.led

    causes : AllByRecursion (MayAnswer (with_aggregator given).kind given.format) r.given
    causes = any_answer counts shows (with_aggregator given).kind given.format (λ e. refl) r.given first summing r.led

    summary : Summarizes (kept lines turns) (texts_in (taken_in calls.all)) (held summing.lines.aggregator)
    summary =
        subst (λ ls. Summarizes ls (texts_in (taken_in calls.all)) (held summing.lines.aggregator))
        (ap texts_in (after history_of (with_aggregator given) leads first run summing.sink.packing replies one_each few r causes).kept_is)
        (subst (λ ls. Summarizes (texts_in (taken_in r.given)) ls (held summing.lines.aggregator))
        (calls.packs.lines ∙ ap (λ ns. map line_of_note ns ++ texts_in (taken_in calls.all)) none_noted)
        (summarizes (texts_in (taken_in r.given)) (items_of summing.sink.notes) (held summing.lines.aggregator) calls.past))

    -- the promise, of a whole run
    pub has_aggregated : length summing.sink.packing.packer.held ≤ summing.sink.packing.packer.format.capacity
        → summing.sink.packing.packer.writer.stats.bytes_sent < 2 ^ 64 → summing.sink.packing.packer.writer.stats.packets_sent < 2 ^ 64
        → HasAggregated history_of given (outcome_after run summing.sink.packing replies) (held summing.lines.aggregator) calls.all
    has_aggregated bound bytes packets =
        let asked : AskAll turns calls.all = ask_all lines queue policy turns at_start (queue_state run) r.given calls.all r.goes calls.asked in
        let short : length turns ≡ length steps = length-zip steps replies.items (sym one_each) in
        record {
          replies = has_replies history_of (with_aggregator given) leads first run summing.sink.packing replies one_each few r causes;
          asked = asked;
          packed =
              packed kind_of history_of settings capacity ending queue policy steps writer first.sink.packing summing.sink.packing new calls.all calls.packs.sends
              (kept_filled (kept lines turns) (taken_in calls.all) (held summing.lines.aggregator)
              (all_filled lines (line_filled law settings) turns) summary) (length steps)
              (omega (arith, no_more_kept (kept lines turns) (taken_in calls.all) (held summing.lines.aggregator) summary, length-kept lines turns, short))
              (omega (arith, few_errors turns calls.all asked, short)) few run replies least bound bytes packets;
          summary = summary;
          flushed = λ last. flushed_in counts shows false r.given first summing (λ never. none_held) r.led
              (ends_in_flush lines queue policy false turns at_start (queue_state run) r.given r.goes last);
        }
