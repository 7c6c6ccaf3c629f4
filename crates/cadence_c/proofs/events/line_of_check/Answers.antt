use Rattle.std.proofs.Common.{◌≡◌, ◌∙◌, Err, ap, refl, rules, subst, sym}
use Rattle.std.specs.Option.{option_copied}
use Rattle.std.specs.Prelude.{Result, String}
use Rattle.std.specs.declared.alloc.Global.{Global}
use Rattle.cadence_events.specs.ServiceCheck.{check_line, check_line_with, check_of, check_with}
use Rattle.cadence_events.specs.Cleaned.{check_as}
use Rattle.cadence_events.specs.Refusals.{check_refusal}
use Rattle.cadence_c.specs.Events.{IsInvalidCheck, IsLineOfCheck, IsRefusalOfCheck, IsUtf8Check, MakesEvent}
use Rattle.cadence_host.specs.Status.{error_of}
use Rattle.cadence_host.specs.Texts.{IsUtf8Settings}
use Rattle.cadence_host.specs.declared.status.StatusError.{StatusError}
use Rattle.cadence_c.proofs.EventLines.{makes_err, makes_ok}
use Rattle.cadence_c.proofs.events.line_of_check.Goals as goal

pub returns-in_err-line_as : goal.returns-in_err-line_as
returns-in_err-line_as c =
    let check = check_of c.in_ok-check.check in
    let settings = c.args.settings.now in
    let given = c.args.check.now in
    let x = c.in_err-line_as.field-0.0 in
    let is : c.from_residual-in_err-line_as.result ≡ Err (error_of x) = search rules in
    subst (λ (r : Result (String Global) StatusError). MakesEvent r (IsLineOfCheck settings given) (IsRefusalOfCheck settings given)
    (IsUtf8Settings settings × IsUtf8Check given) (IsInvalidCheck given)) (sym is)
    (makes_err _ _ _ _ (check_refusal (check_as c.cleans_texts.result check)) _ x (error_of x) refl c.in_err-line_as.ensures.line
    (check, c.in_ok-check.ensures.check, ap (λ k. check_refusal (check_as k check)) (sym c.cleans_texts.ensures)))

pub returns : goal.returns
returns c =
    let check = check_of c.in_ok-check.check in
    let texts = c.in-Some.texts in
    let sent = check_as c.cleans_texts.result check in
    let line = check_line_with texts.tags.now (option_copied texts.container) sent in
    makes_ok (IsLineOfCheck c.args.settings.now c.args.check.now) (IsRefusalOfCheck c.args.settings.now c.args.check.now) _ _ (check_refusal sent) line c.in_ok-line_as.field-0
    c.in_ok-line_as.ensures.line (check, c.in_ok-check.ensures.check, ap (λ k. check_refusal (check_as k check)) (sym c.cleans_texts.ensures)) (λ made. (
      check,
      c.in_ok-check.ensures.check,
      λ s has. (let is = c.in-Some.ensures.texts s has in
          made ∙ c.in_ok-line_as.ensures.defaults s.tags is.tags ∙ ap (λ container. check_line (check_with s.tags container sent)) is.container
          ∙ ap (λ k. check_line (check_with s.tags s.container (check_as k check))) c.cleans_texts.ensures),
    ))
