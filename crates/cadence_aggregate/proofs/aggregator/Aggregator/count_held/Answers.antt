use Rattle.cadence_aggregate.proofs.InTurn.{count_in_turn}
use Rattle.cadence_aggregate.proofs.aggregator.Aggregator.count_held.Goals as goal

pub returns : goal.returns
returns c =
    let a = c.args.self.now in
    let e = c.lengths-all.ensures in
    rw (e.sums, e.levels, e.members, e.timings) (count_in_turn a.due a.sums.entries a.levels.entries a.members.entries a.timings.entries)
