use Rattle.std.proofs.Common.{◌≡◌, ◌++◌, [], map, sym, ap, ◌∙◌, append-nil}
use Rattle.std.proofs.lemmas.Result.{IfOk-weaker}
use Rattle.cadence_stage.specs.OwnLog.{items_of}
use Rattle.cadence_aggregate.specs.Aggregate.{held}
use Rattle.cadence_aggregating.specs.Notes.{sample_of_note}
use Rattle.cadence_aggregating.specs.Printed.{line_saying}
use Rattle.cadence_aggregating.specs.Waiting.{all_notes_of, notes_of}
use Rattle.cadence_aggregating.proofs.Records.{noted_lines}
use Rattle.cadence_schedule.proofs.aggregated_report.AggregatedReport.take_lines.Goals as goal

pub returns-in-Some : goal.returns-in-Some
returns-in-Some g c =
    let before = held c.args.self.now.aggregator in
    let waiting = c.flush.new.sink in
    let notes = notes_of waiting in
    let gone : items_of waiting.gone ≡ [] = c.flush.ensures.leads.0 ∙ c.new-waiting.ensures.gone in
    let said : map sample_of_note notes ≡ before = ap (λ g. map sample_of_note (g ++ notes)) (sym gone) ∙ sym (append-nil (map sample_of_note (all_notes_of waiting)))
    ∙ ap (λ h. map sample_of_note (all_notes_of waiting) ++ h) (sym c.in-Some.ensures.ok) ∙ c.in-Some.ensures.same
    ∙ ap (λ ns. map sample_of_note ns ++ before) c.new-waiting.ensures.all in
    IfOk-weaker c.into_texts.result _ _ (λ texts same. same ∙ noted_lines notes ∙ ap (map line_saying) said) c.into_texts.ensures
