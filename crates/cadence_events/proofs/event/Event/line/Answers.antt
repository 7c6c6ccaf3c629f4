use Rattle.std.proofs.Common.{List, subst, ℕ}
use Rattle.cadence_events.specs.Event.{event_of}
use Rattle.cadence_events.specs.Refusals.{MakesLine, event_refusal}
use Rattle.cadence_events.proofs.Defaults.{event_alone, made_is_cut}
use Rattle.cadence_events.proofs.event.Event.line.Goals as goal

pub returns : goal.returns
returns g c =
    let e = event_of c.args.self.now in
    let made = subst (λ (line : List ℕ). MakesLine (event_refusal e) line c.line_with.result) (event_alone e) c.line_with.ensures.line in
    record { line = made; lengths = made_is_cut e (event_refusal e) c.line_with.result made }
