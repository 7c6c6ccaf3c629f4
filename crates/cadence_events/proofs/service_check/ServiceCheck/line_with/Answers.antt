use Rattle.std.proofs.Common.{subst}
use Rattle.std.specs.Option.{option_copied}
use Rattle.cadence_events.specs.Refusals.{MakesLine, check_refusal}
use Rattle.cadence_events.specs.ServiceCheck.{ServiceCheck, check_line_with, check_of}
use Rattle.cadence_events.proofs.CleanedTexts.{same_check}
use Rattle.cadence_events.proofs.Defaults.{check_defaults}
use Rattle.cadence_events.proofs.service_check.ServiceCheck.line_with.Goals as goal

pub returns : goal.returns
returns g c =
    let own = check_of c.args.self.now in
    let tags = c.args.tags.now in
    let container = option_copied c.args.container in
    record {
      line = subst (λ (x : ServiceCheck). MakesLine (check_refusal x) (check_line_with tags container x) c.line_as.result) (same_check own) c.line_as.ensures.line;
      defaults = check_defaults own tags container;
    }
