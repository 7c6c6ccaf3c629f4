use Rattle.std.proofs.Common.{rules, ◌≡◌, ◌∙◌, Err, ap, map}
use Rattle.std.specs.List.{AllZip}
use Rattle.cadence_events.specs.Cleaned.{event_as}
use Rattle.cadence_events.specs.Event.{event_line, event_of, event_with}
use Rattle.cadence_text.specs.Line.{tags_field}
use Rattle.cadence_text.specs.Record.{tag_of}
use Rattle.cadence_words.specs.Asked.{IsTagWord}
use Rattle.cadence_words.specs.Events.{IsLineOfTitled}
use Rattle.cadence_words.proofs.EventWords.{event_found, event_of_tags, event_tags}
use Rattle.cadence_words.proofs.WordByWord.{hands_on, texts}
use Rattle.cadence_words.proofs.events.line_of_titled.Goals as goal

pub returns-in_err-tags : goal.returns-in_err-tags
returns-in_err-tags g c =
    let d = c.args.defaults.now in
    let f = c.args.fields.now in
    let words = texts c.args.words.now in
    let is : c.from_residual-in_err-tags.result ≡ Err c.in_err-tags.field-0.0 = search rules in
    hands_on (IsLineOfTitled d f c.args.title.now c.args.text.now words) _ (AllZip IsTagWord words) _ c.in_err-tags.field-0.0 is
    (event_tags d f c.args.title.now c.args.text.now words) c.in_err-tags.ensures

pub returns : goal.returns
returns g c =
    let d = c.args.defaults.now in
    let f = c.args.fields.now in
    let e = event_of c.event_with-event.result in
    let sent = event_as c.is_cleaned-is_cleaned.result e in
    let is : c.default_tags_text-default_tags.result.now ≡ tags_field d.settings.tags = c.default_tags_text-default_tags.ensures in
    event_found d f c.args.title.now c.args.text.now (texts c.args.words.now) (map tag_of c.in_ok-tags.tags.items) c.in_ok-tags.ensures e
    (event_of_tags d.time f _ _ _ _ e c.event_with-event.ensures c.deref.ensures.value) c.is_cleaned-is_cleaned.result c.is_cleaned-is_cleaned.ensures.cleaned _
    c.line_as.result c.line_or_word_error.result c.line_or_word_error.ensures c.line_as.ensures.line
    (c.line_as.ensures.defaults d.settings.tags is
    ∙ ap (λ x. event_line (event_with d.settings.tags x sent)) c.default_container-container.ensures)
