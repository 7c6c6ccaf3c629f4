use Rattle.std.proofs.Common.{◌≡◌, ◌≢◌, ℕ, List, ◌+◌, ◌-◌, ◌<◌, ◌≤◌, get_or, arith, false, true, length, drop, take, All, subst}
use Rattle.std.specs.Prelude.{Contains}
use Rattle.std.proofs.lemmas.List.Sums.{sum_by_more}
use Rattle.std.proofs.lemmas.List.Elements.{Contains-get_or}
use Rattle.cadence_schedule.proofs.plan.group_len.Goals as goal

-- If no mark lies between the start of a group and its end so far, and none is at that end, then none lies between the
-- start and the end one size later.
free_more : (marks : List ℕ) (start count : ℕ) → All (λ mark. start < mark → start + count ≤ mark) marks → ¬ Contains marks (start + count)
    → All (λ mark. start < mark → start + (count + 1) ≤ mark) marks
free_more marks start count free none = λ k d in_list after.
    let other : get_or marks k d ≢ start + count = λ e. none (subst (λ p. Contains marks p) e (Contains-get_or marks k d in_list)) in
    let far : start + count ≤ get_or marks k d = free k d in_list after in
    omega arith

pub loop-count-preserved : goal.loop-count-preserved
loop-count-preserved c =
    let left = take (length c.args.sizes.now - c.args.start) (drop c.args.start c.args.sizes.now) in
    let count = c.loop-count.count in
    record {
      room = omega (arith, sum_by_more (λ y. y) left count 0 c.loop-count-test.true, c.loop-count.invariant.room);
      free =
          free_more c.args.marks.now c.args.start count c.loop-count.invariant.free
          (λ has. let h : false ≡ true = c.if-is_mark.ensures.1 has in absurd (cc));
    }
