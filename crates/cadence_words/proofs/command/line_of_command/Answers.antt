use Rattle.std.proofs.Common.{rules, ◌≡◌}
use Rattle.std.specs.Prelude.{codes}
use Rattle.cadence_words.specs.Commands.{IsLineOfCommand, first_word}
use Rattle.cadence_words.specs.Events.{IsLineOfCheck, IsLineOfEvent}
use Rattle.cadence_words.specs.Lines.{IsLineOfWords}
use Rattle.cadence_words.proofs.CommandWords.{check_only, event_only, metric_only}
use Rattle.cadence_words.proofs.WordByWord.{hands_on, texts}
use Rattle.cadence_words.proofs.command.line_of_command.Goals as goal

pub returns-in_err-line-in-Event : goal.returns-in_err-line-in-Event
returns-in_err-line-in-Event g c =
    let d = c.args.defaults.now in
    let f = c.args.fields.now in
    let words = texts c.args.words.now in
    let is : first_word words ≡ codes "event" = search rules in
    hands_on (IsLineOfCommand d f words) _ (IsLineOfEvent d f words) _ c.in_err-line-in-Event.field-0.0 (search rules)
    (λ x h. (x, event_only d f words is x h)) c.in_err-line-in-Event.ensures

pub returns-in_err-line-in-ServiceCheck : goal.returns-in_err-line-in-ServiceCheck
returns-in_err-line-in-ServiceCheck g c =
    let d = c.args.defaults.now in
    let f = c.args.fields.now in
    let words = texts c.args.words.now in
    let is : first_word words ≡ codes "check" = search rules in
    hands_on (IsLineOfCommand d f words) _ (IsLineOfCheck d f words) _ c.in_err-line-in-ServiceCheck.field-0.0 (search rules)
    (λ x h. (x, check_only d f words is x h)) c.in_err-line-in-ServiceCheck.ensures

pub returns-in_err-write_line_of_words-in-Metric : goal.returns-in_err-write_line_of_words-in-Metric
returns-in_err-write_line_of_words-in-Metric g c =
    let d = c.args.defaults.now in
    let f = c.args.fields.now in
    let words = texts c.args.words.now in
    let no_event : first_word words ≡ codes "event" → ⊥ = search rules in
    let no_check : first_word words ≡ codes "check" → ⊥ = search rules in
    hands_on (IsLineOfCommand d f words) _ (IsLineOfWords d words) _ c.in_err-write_line_of_words-in-Metric.field-0.0 (search rules)
    (λ x h. (x, metric_only d f words no_event no_check x h)) c.in_err-write_line_of_words-in-Metric.ensures
