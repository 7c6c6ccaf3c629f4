use Rattle.std.proofs.Common.{◌≡◌, ◌∙◌, None, ap₂, rules, subst, sym, true, false}
use Rattle.cadence_events.specs.Cleaned.{common_as, event_as}
use Rattle.cadence_events.specs.Event.{event_of, event_sharing}
use Rattle.cadence_events.specs.Lined.{common_of}
use Rattle.cadence_events.specs.Refusals.{event_refusal}
use Rattle.cadence_events.proofs.CleanedTexts.{event_fits, same_common, same_event}
use Rattle.cadence_events.proofs.event.EventLined.refusal_with.Goals as goal

pub returns-then-is_cleaned-clause-first : goal.returns-then-is_cleaned-clause-first
returns-then-is_cleaned-clause-first c =
    let common = common_of c.args.common.now in
    let own = event_of c.args.self.now in
    let is : c.args.is_cleaned ≡ true = search rules in
    subst (λ k. None ≡ event_refusal (event_sharing (common_as k common) (event_as k own))) (sym is) (sym (event_fits common own))

pub returns-clause-first : goal.returns-clause-first
returns-clause-first c =
    let common = common_of c.args.common.now in
    let own = event_of c.args.self.now in
    let is : c.args.is_cleaned ≡ false = search rules in
    subst (λ k. c.first_unfit.result ≡ event_refusal (event_sharing (common_as k common) (event_as k own))) (sym is)
    (c.first_unfit.ensures ∙ sym (ap₂ (λ x y. event_refusal (event_sharing x y)) (same_common common) (same_event own)))
