use Rattle.std.proofs.Common.{◌≡◌, ◌+◌, ◌∷◌, ◌++◌, [], drop, arith, sym, ap, refl, subst, ◌∙◌}
use Rattle.std.proofs.lemmas.List.{drop-drop, length-drop, append_assoc, append-nil}
use Rattle.cadence_schedule.proofs.plans.PlanGroups.{tight_out, TightGroups}
use Rattle.cadence_schedule.proofs.plans.TightPlans.{fewest}
use Rattle.cadence_schedule.proofs.plans.PlanTests.{tight_step}
use Rattle.cadence_schedule.proofs.plan.plan_packets.Goals as goal

pub loop-start-preserved : goal.loop-start-preserved
loop-start-preserved g c =
    let start = c.loop-start.start in
    let count = c.group_len-count.result in
    let sizes = c.args.sizes.now in
    record {
      in_list = omega (arith, c.group_len-count.ensures.0.within, length-drop start sizes, c.loop-start.invariant.in_list);
      completes = λ tail t.
          let longer : TightGroups c.args.capacity c.args.marks.now 0 (c.loop-start.plan.items ++ (count ∷ tail)) sizes =
          c.loop-start.invariant.completes (count ∷ tail)
          ((tight_step c.args.capacity c.args.marks.now start count (drop start sizes) (count ∷ tail) tail (drop (start + count) sizes) refl
          (sym (drop-drop count start sizes)) (c.group_len-count.ensures.0, c.group_len-count.ensures.1)).1 t) in
          let items : c.push.new.self.items ≡ c.loop-start.plan.items ++ count ∷ [] = c.in_ok-push.ensures.items in
          subst (λ p. TightGroups c.args.capacity c.args.marks.now 0 p sizes) (sym (append_assoc c.loop-start.plan.items (count ∷ []) tail)
          ∙ ap (λ p. p ++ tail) (sym items)) longer;
    }

pub returns-clause-tight : goal.returns-clause-tight
returns-clause-tight g c =
    let plan = c.loop-start.plan.items in
    tight_out c.args.capacity c.args.marks.now c.args.sizes.now plan
    (subst (λ p. TightGroups c.args.capacity c.args.marks.now 0 p c.args.sizes.now) (append-nil plan)
    (c.loop-start.invariant.completes [] (omega (arith, length-drop c.loop-start.start c.args.sizes.now), tt)))

pub returns-clause-fewest : goal.returns-clause-fewest
returns-clause-fewest g c = fewest c.args.capacity c.args.marks.now c.args.sizes.now c.loop-start.plan.items (returns-clause-tight g c)
