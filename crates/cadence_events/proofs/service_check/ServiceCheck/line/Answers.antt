use Rattle.std.proofs.Common.{List, subst, ℕ}
use Rattle.cadence_events.specs.Refusals.{MakesLine, check_refusal}
use Rattle.cadence_events.specs.ServiceCheck.{check_of}
use Rattle.cadence_events.proofs.Defaults.{check_alone}
use Rattle.cadence_events.proofs.service_check.ServiceCheck.line.Goals as goal

pub returns : goal.returns
returns g c =
    let check = check_of c.args.self.now in
    subst (λ (line : List ℕ). MakesLine (check_refusal check) line c.line_with.result) (check_alone check) c.line_with.ensures.line
