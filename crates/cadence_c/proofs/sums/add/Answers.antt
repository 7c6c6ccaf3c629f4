use Rattle.std.proofs.Common.{rules, subst}
use Rattle.std.proofs.lemmas.Int.{to_z-of_z}
use Rattle.std.specs.Prelude.{OnOk}
use Rattle.cadence_aggregating.specs.Keys.{line_of_counter}
use Rattle.cadence_aggregating.specs.Summed.{AddsQuietly, waiting_in}
use Rattle.cadence_c.proofs.sums.add.Goals as goal
use mir.Syntax.{w64}
use mir.Val.{SFits}

pub returns-in-Line-clause-quiet : goal.returns-in-Line-clause-quiet
returns-in-Line-clause-quiet c = rw c.in-Line.is c.add.ensures.quiet

pub returns-in-Raise-clause-quiet : goal.returns-in-Raise-clause-quiet
returns-in-Raise-clause-quiet c =
    let old = c.args.lines.now in
    let fits : SFits w64 c.in-Raise.by = search rules in
    let quiet = subst (λ n. OnOk c.count.result (AddsQuietly old (line_of_counter c.in-Raise.key.now n) (waiting_in old) (waiting_in c.count.new.self)))
    (to_z-of_z w64 c.in-Raise.by fits) c.count.ensures.quiet in
    rw c.in-Raise.is quiet

pub returns-in-Set-clause-quiet : goal.returns-in-Set-clause-quiet
returns-in-Set-clause-quiet c = rw c.in-Set.is c.gauge.ensures.quiet
