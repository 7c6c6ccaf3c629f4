use Rattle.std.proofs.Common.{◌≡◌, List, ◌++◌, true}
use Rattle.cadence_queuing.proofs.worklist.work.Given as goal

abbrev pub invariant-loop : goal.invariant-loop
invariant-loop g l =
    (goal.iterator-loop g).can_next l.iterator'
    × (goal.iterator-loop g).is_finite l.iterator'
    × (g.W.Worklist.promises l.list ≡ g.W.Worklist.promises l.fn.list)
    × (g.W.Worklist.promises l.fn.list ≡ true
    → (g.W.Worklist.given l.list ≡ g.W.Worklist.handed l.list)
    × ((texts : List _) × (g.W.Worklist.given l.list ≡ g.W.Worklist.given l.fn.list ++ texts)
    × (g.W.Worklist.handed l.list ≡ g.W.Worklist.handed l.fn.list ++ texts)))
