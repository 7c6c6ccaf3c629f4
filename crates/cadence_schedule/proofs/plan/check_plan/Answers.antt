use Rattle.std.proofs.Common.{◌≡◌, ◌+◌, drop, length, get_or, arith, sym, refl, false, true}
use Rattle.std.proofs.lemmas.List.{drop_more, drop-drop, drop_all, length-drop}
use Rattle.std.proofs.lemmas.Bool.Decides.{Decides-eqb}
use Rattle.cadence_schedule.specs.Plan.{IsGroup, EndsLate}
use Rattle.cadence_schedule.proofs.plans.PlanGroups.{tight_in, tight_out}
use Rattle.cadence_schedule.proofs.plans.TightPlans.{fewest}
use Rattle.cadence_schedule.proofs.plans.PlanTests.{tight_step, tight_refused, tight_end}
use Rattle.cadence_schedule.proofs.plan.check_plan.Goals as goal

pub returns-then-not-is_tight_group-clause-exact : goal.returns-then-not-is_tight_group-clause-exact
returns-then-not-is_tight_group-clause-exact c =
    let i = c.loop-count.count-index in
    let plan = c.args.plan.now in
    let left = drop c.loop-count.start c.args.sizes.now in
    let refused = λ (both : IsGroup c.args.capacity c.args.marks.now c.loop-count.start (get_or plan i 0) left
    × EndsLate c.args.capacity c.args.marks.now c.loop-count.start (get_or plan i 0) left).
    let h : false ≡ true = c.if-not-is_tight_group.ensures.1 both in let bad : ⊥ = cc in bad in (
      λ h. absurd (cc),
      λ tight. absurd (tight_refused c.args.capacity c.args.marks.now c.loop-count.start (get_or plan i 0) left (drop i plan)
          (drop (i + 1) plan) (drop_more plan i 0 c.loop-count-test.true) refused
          (c.loop-count.invariant.alike.0 (tight_in c.args.capacity c.args.marks.now c.args.sizes.now c.args.plan.now tight))),
    )

pub loop-count-preserved : goal.loop-count-preserved
loop-count-preserved c =
    let i = c.loop-count.count-index in
    let plan = c.args.plan.now in
    let start = c.loop-count.start in
    let count = get_or c.args.plan.now c.loop-count.count-index 0 in
    let left = drop c.loop-count.start c.args.sizes.now in
    let stands : IsGroup c.args.capacity c.args.marks.now start count left
    × EndsLate c.args.capacity c.args.marks.now start count left = c.if-not-is_tight_group.ensures.0 refl in
    let step =
    tight_step c.args.capacity c.args.marks.now start count left (drop i plan) (drop (i + 1) plan)
    (drop (start + count) c.args.sizes.now) (drop_more plan i 0 c.loop-count-test.true)
    (sym (drop-drop count start c.args.sizes.now)) stands in
    record {
      in_list = omega (arith, stands.0.within, length-drop start c.args.sizes.now, c.loop-count.invariant.in_list);
      alike = (λ t. step.0 (c.loop-count.invariant.alike.0 t), λ t. c.loop-count.invariant.alike.1 (step.1 t));
    }

pub returns-clause-exact : goal.returns-clause-exact
returns-clause-exact c =
    let i = c.loop-count.count-index in
    let end =
    tight_end c.args.capacity c.args.marks.now c.loop-count.start (drop i c.args.plan.now)
    (drop c.loop-count.start c.args.sizes.now) (drop_all i c.args.plan.now c.loop-count-test.false) in (
      λ yes. let all : c.loop-count.start ≡ length c.args.sizes.now = (Decides-eqb c.loop-count.start (length c.args.sizes.now)).0 yes in
          tight_out c.args.capacity c.args.marks.now c.args.sizes.now c.args.plan.now
          (c.loop-count.invariant.alike.1 (end.1 (omega (arith, length-drop c.loop-count.start c.args.sizes.now)))),
      λ tight. let none : length (drop c.loop-count.start c.args.sizes.now) ≡ 0 =
          end.0 (c.loop-count.invariant.alike.0 (tight_in c.args.capacity c.args.marks.now c.args.sizes.now c.args.plan.now tight)) in
          (Decides-eqb c.loop-count.start (length c.args.sizes.now)).1
          (omega (arith, length-drop c.loop-count.start c.args.sizes.now, c.loop-count.invariant.in_list)),
    )

pub returns-clause-fewest : goal.returns-clause-fewest
returns-clause-fewest c = λ yes. fewest c.args.capacity c.args.marks.now c.args.sizes.now c.args.plan.now ((returns-clause-exact c).0 yes)
