use Rattle.std.proofs.Common.{length}
use Rattle.cadence_send.proofs.Feeding.{Feeding}
use Rattle.cadence_send.proofs.engine.feed.Given as goal

abbrev pub decreases-loop-front : goal.decreases-loop-front
decreases-loop-front g l = length l.left

abbrev pub invariant-loop-front : goal.invariant-loop-front
invariant-loop-front g l =
    Feeding g.L.LineTaker.takes g.met.L.LineTaker.takes_none g.met.L.LineTaker.takes_more l.defaults l.initial.lines l.lines l.initial.buffers.waiting.items l.fn.bytes
    l.buffers.waiting.items l.left
