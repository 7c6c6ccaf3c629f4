use Rattle.std.proofs.Common.{subst}
use Rattle.std.specs.Option.{option_copied}
use Rattle.cadence_events.specs.Refusals.{MakesLine, event_refusal}
use Rattle.cadence_events.specs.Event.{Event, event_line_with, event_of}
use Rattle.cadence_events.proofs.CleanedTexts.{same_event}
use Rattle.cadence_events.proofs.Defaults.{event_defaults}
use Rattle.cadence_events.proofs.event.Event.line_with.Goals as goal

pub returns : goal.returns
returns g c =
    let own = event_of c.args.self.now in
    let tags = c.args.tags.now in
    let container = option_copied c.args.container in
    record {
      line = subst (λ (x : Event). MakesLine (event_refusal x) (event_line_with tags container x) c.line_as.result) (same_event own) c.line_as.ensures.line;
      defaults = event_defaults own tags container;
    }
