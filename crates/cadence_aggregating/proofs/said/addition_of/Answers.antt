use Rattle.std.proofs.Common.{rules, ◌≡◌}
use Rattle.cadence_text.specs.Line.{kind_text}
use Rattle.cadence_read.specs.Cuts.{parts_of_text}
use Rattle.cadence_aggregating.proofs.Saying.{no_kind, other_kind}
use Rattle.cadence_aggregating.proofs.said.addition_of.Goals as goal

pub returns-in-Some : goal.returns-in-Some
returns-in-Some c =
    let found : kind_text c.in-Some.kind ≡ c.args.parts.kind.now = search rules in
    other_kind (parts_of_text c.args.parts) c.in-Some.kind found c.addition_by.result c.addition_by.ensures

pub returns-in-None : goal.returns-in-None
returns-in-None c = no_kind (parts_of_text c.args.parts) (λ kind is. search rules)
