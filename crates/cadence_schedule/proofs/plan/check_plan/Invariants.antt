use Rattle.std.proofs.Common.{◌≤◌, ◌↔◌, drop, length}
use Rattle.cadence_schedule.proofs.plans.PlanGroups.{TightGroups}
use Rattle.cadence_schedule.proofs.plan.check_plan.Given as goal

-- The whole plan is tight if and only if the rest of it is, for the sizes that are left.
abbrev pub invariant-loop-count : goal.invariant-loop-count
invariant-loop-count l =
    record {
      in_list : l.start ≤ length l.sizes;
      alike : TightGroups l.capacity l.marks 0 l.plan l.sizes ↔ TightGroups l.capacity l.marks
          l.start (drop l.count-index l.plan) (drop l.start l.sizes);
    }
