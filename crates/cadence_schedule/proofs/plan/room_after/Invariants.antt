use Rattle.std.proofs.Common.{◌≡◌, ◌+◌, take, sum}
use Rattle.cadence_schedule.proofs.plan.room_after.Given as goal

abbrev pub invariant-loop-size : goal.invariant-loop-size
invariant-loop-size l = l.room + sum (take l.size-index l.group) ≡ l.capacity
