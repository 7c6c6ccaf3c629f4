use Rattle.std.proofs.Common.{◌≡◌, ◌∙◌, Err, ap, refl, rules, subst, sym}
use Rattle.std.specs.Option.{option_copied}
use Rattle.std.specs.Prelude.{Result, String}
use Rattle.std.specs.declared.alloc.Global.{Global}
use Rattle.cadence_events.specs.Event.{event_line, event_line_with, event_of, event_with}
use Rattle.cadence_events.specs.Cleaned.{event_as}
use Rattle.cadence_events.specs.Refusals.{event_refusal}
use Rattle.cadence_c.specs.Events.{IsInvalidEvent, IsLineOfEvent, IsRefusalOfEvent, IsUtf8Event, MakesEvent}
use Rattle.cadence_host.specs.Status.{error_of}
use Rattle.cadence_host.specs.Texts.{IsUtf8Settings}
use Rattle.cadence_host.specs.declared.status.StatusError.{StatusError}
use Rattle.cadence_c.proofs.EventLines.{makes_err, makes_ok}
use Rattle.cadence_c.proofs.events.line_of_event.Goals as goal

pub returns-in_err-line_as : goal.returns-in_err-line_as
returns-in_err-line_as c =
    let event = event_of c.in_ok-event.event in
    let settings = c.args.settings.now in
    let given = c.args.event.now in
    let x = c.in_err-line_as.field-0.0 in
    let is : c.from_residual-in_err-line_as.result ≡ Err (error_of x) = search rules in
    subst (λ (r : Result (String Global) StatusError). MakesEvent r (IsLineOfEvent settings given) (IsRefusalOfEvent settings given)
    (IsUtf8Settings settings × IsUtf8Event given) (IsInvalidEvent given)) (sym is)
    (makes_err _ _ _ _ (event_refusal (event_as c.cleans_texts.result event)) _ x (error_of x) refl c.in_err-line_as.ensures.line
    (event, c.in_ok-event.ensures.event, ap (λ k. event_refusal (event_as k event)) (sym c.cleans_texts.ensures)))

pub returns : goal.returns
returns c =
    let event = event_of c.in_ok-event.event in
    let texts = c.in-Some.texts in
    let sent = event_as c.cleans_texts.result event in
    let line = event_line_with texts.tags.now (option_copied texts.container) sent in
    makes_ok (IsLineOfEvent c.args.settings.now c.args.event.now) (IsRefusalOfEvent c.args.settings.now c.args.event.now) _ _ (event_refusal sent) line c.in_ok-line_as.field-0
    c.in_ok-line_as.ensures.line (event, c.in_ok-event.ensures.event, ap (λ k. event_refusal (event_as k event)) (sym c.cleans_texts.ensures)) (λ made. (
      event,
      c.in_ok-event.ensures.event,
      λ s has. (let is = c.in-Some.ensures.texts s has in
          made ∙ c.in_ok-line_as.ensures.defaults s.tags is.tags ∙ ap (λ container. event_line (event_with s.tags container sent)) is.container
          ∙ ap (λ k. event_line (event_with s.tags s.container (event_as k event))) c.cleans_texts.ensures),
    ))
