use Rattle.std.proofs.Common.{◌-◌, ◌≤◌, ◌++◌, List, ℕ, drop, length}
use Rattle.cadence_schedule.proofs.plans.PlanGroups.{TightGroups}
use Rattle.cadence_schedule.proofs.plan.plan_packets.Given as goal

-- A tight plan of the sizes that are left, put after the plan so far, is a tight plan of all sizes.
abbrev pub invariant-loop-start : goal.invariant-loop-start
invariant-loop-start g l =
    record {
      in_list : l.start ≤ length l.sizes;
      completes : (tail : List ℕ) → TightGroups l.capacity l.marks l.start tail
          (drop l.start l.sizes) → TightGroups l.capacity l.marks 0 (l.plan.items ++ tail) l.sizes;
    }

abbrev pub decreases-loop-start : goal.decreases-loop-start
decreases-loop-start g l = length l.sizes - l.start
