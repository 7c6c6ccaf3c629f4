use Rattle.std.proofs.Common.{subst}
use Rattle.std.proofs.lemmas.Int.{to_z-of_z}
use Rattle.std.specs.Prelude.{OnOk}
use Rattle.cadence_aggregating.specs.Keys.{line_of_counter}
use Rattle.cadence_aggregating.specs.Summed.{AddsQuietly, waiting_in}
use Rattle.cadence_aggregating.proofs.summed.SummedLines.count.Goals as goal
use mir.Syntax.{w64}

pub returns-clause-quiet : goal.returns-clause-quiet
returns-clause-quiet c =
    let old = c.args.self.now in
    subst (λ n. OnOk c.call.result (AddsQuietly old (line_of_counter c.args.key.now n) (waiting_in old) (waiting_in c.call.new.self)))
    (to_z-of_z w64 c.args.by c.ranges.by) c.call.ensures.quiet
