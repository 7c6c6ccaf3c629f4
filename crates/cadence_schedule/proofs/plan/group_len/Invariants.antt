use Rattle.std.proofs.Common.{◌≡◌, ◌+◌, ◌<◌, ◌≤◌, take, sum, All}
use Rattle.cadence_schedule.proofs.plan.group_len.Given as goal

abbrev pub invariant-loop-count : goal.invariant-loop-count
invariant-loop-count l =
    record { room : l.room + sum (take l.count l.left) ≡ l.capacity; free : All (λ mark. l.start < mark → l.start + l.count ≤ mark) l.marks }
