use Rattle.std.proofs.Common.{◌≡◌, ◌+◌, ◌-◌, ◌++◌, ◌∷◌, ◌<◌, [], length, take, get_or, arith, refl, subst, sym, ◌∙◌, length-append, rules}
use Rattle.cadence_aggregate.specs.Led.{AllLead, lead_joined}
use Rattle.std.proofs.lemmas.List.{take_all, take_more, length-take-le}
use Rattle.cadence_aggregate.specs.declared.runs.Step.{Step}
use Rattle.std.specs.Prelude.{pos}
use Rattle.cadence_aggregate.specs.declared.line.Line.TheVariants.{Amount}
use Rattle.cadence_aggregate.specs.declared.runs.Step.TheVariants.{Add, Flush}
use Rattle.cadence_aggregate.specs.Aggregate.{held}
use Rattle.cadence_aggregate.proofs.RunSteps.{flushed_last, step_said, step_within}
use Rattle.cadence_aggregate.proofs.runs.run.Goals as goal

pub loop-step-preserved : goal.loop-step-preserved
loop-step-preserved g c =
    let i = c.loop-step.step-index in
    let steps = c.args.steps.now in
    let lt : i < length steps = omega arith in
    let d : Step = Add (Amount (record { ref_ptr = (0, 0); now = [] }) (pos 0)) in
    let n = length-take-le i steps (omega arith) in
    let sent = g.S.LineSink.sent in
    let leads = g.S.LineSink.leads in
    let past = c.loop-step.replies.items in
    let reply = c.take_step-reply.result in
    let next = c.take_step-reply.new in
    record {
      replies = rw (c.in_ok-push.ensures.items, length-append past (reply ∷ [])) (omega (arith, c.loop-step.invariant.replies));
      same = rw (take_more steps i d lt, c.in_ok-push.ensures.items)
          (step_said (sent c.args.sink.now) (sent c.loop-step.sink ++ held c.loop-step.aggregator) (sent next.sink ++ held next.aggregator) (take i steps) past (get_or steps i d) reply
          (omega (arith, c.loop-step.invariant.replies, n)) c.loop-step.invariant.same c.take_step-reply.ensures.said);
      flushed = rw c.in_ok-push.ensures.items
          (flushed_last (held next.aggregator ≡ []) Flush steps past d reply i (i + 1 - 1) (omega arith) lt c.loop-step.invariant.replies c.take_step-reply.ensures.flushed);
      leads = subst (λ rs. AllLead leads c.args.sink.now rs next.sink) (sym c.in_ok-push.ensures.items)
          (lead_joined leads past (reply ∷ []) c.args.sink.now c.loop-step.sink next.sink c.loop-step.invariant.leads (next.sink, c.take_step-reply.ensures.leads, refl));
      limit = c.take_step-reply.ensures.limit ∙ c.loop-step.invariant.limit;
      within = rw (take_more steps i d lt, c.in_ok-push.ensures.items)
          (step_within c.args.most_bytes (sent c.args.sink.now) (sent c.loop-step.sink ++ held c.loop-step.aggregator) (sent next.sink ++ held next.aggregator) (take i steps) past (get_or steps i d) reply
          (omega (arith, c.loop-step.invariant.replies, n)) c.loop-step.invariant.within (rw c.loop-step.invariant.limit at c.take_step-reply.ensures.within));
    }

pub returns-in_err-push-clause-leads : goal.returns-in_err-push-clause-leads
returns-in_err-push-clause-leads g c = (
  c.loop-step.replies.items ++ c.take_step-reply.result ∷ [],
  lead_joined g.S.LineSink.leads c.loop-step.replies.items (c.take_step-reply.result ∷ []) c.args.sink.now c.loop-step.sink c.take_step-reply.new.sink
      c.loop-step.invariant.leads (c.take_step-reply.new.sink, c.take_step-reply.ensures.leads, refl),
  search rules,
)

pub returns-in_err-aggregator-clause-leads : goal.returns-in_err-aggregator-clause-leads
returns-in_err-aggregator-clause-leads g c = ([], refl, search rules)

pub returns-in_err-replies-clause-leads : goal.returns-in_err-replies-clause-leads
returns-in_err-replies-clause-leads g c = ([], refl, search rules)

pub returns-clause-leads : goal.returns-clause-leads
returns-clause-leads g c = (c.loop-step.replies.items, c.loop-step.invariant.leads, refl)

pub returns-clause-within : goal.returns-clause-within
returns-clause-within g c =
    let all = take_all c.loop-step.step-index c.args.steps.now (omega (arith, c.loop-step-test.false)) in
    rw all at c.loop-step.invariant.within
