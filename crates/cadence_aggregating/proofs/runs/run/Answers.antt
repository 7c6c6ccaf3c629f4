use Rattle.std.specs.Prelude.{All}
use Rattle.std.proofs.Common.{◌≡◌, ◌+◌, ◌-◌, ◌++◌, ◌∷◌, ◌<◌, ◌≤◌, ℕ, List, [], length, take, get_or, arith, ap, sym, ◌∙◌, subst, length-append}
use Rattle.std.proofs.lemmas.List.{take_all, take_more, length-take-le}
use Rattle.cadence_aggregate.proofs.RunSteps.{flushed_last}
use Rattle.cadence_aggregating.specs.Origins.{ComesFrom}
use Rattle.cadence_aggregating.specs.Past.{Summarizes}
use Rattle.cadence_aggregating.specs.Recorded.{lines_accepted, samples_held, lines_taken}
use Rattle.cadence_aggregating.specs.Runs.{accepted_line, accepted_lines}
use Rattle.cadence_aggregating.specs.declared.limits.Limits.{Limits}
use Rattle.cadence_aggregating.specs.declared.runs.Step.{Step}
use Rattle.cadence_aggregating.specs.declared.runs.Step.TheVariants.{Add, Flush}
use Rattle.cadence_aggregating.proofs.RunSteps.{Reply, accepted_more}
use Rattle.cadence_aggregating.proofs.runs.run.Goals as goal

pub loop-step-preserved : goal.loop-step-preserved
loop-step-preserved g c =
    let i = c.loop-step.step-index in
    let steps = c.args.steps.now in
    let lt : i < length steps = omega arith in
    let d : Step = Add (record { ref_ptr = (0, 0); now = [] }) in
    let n = length-take-le i steps (omega arith) in
    let past = c.loop-step.replies.items in
    let reply = c.take_step-reply.result in
    record {
      replies = rw (c.in_ok-push.ensures.items, length-append past (reply ∷ [])) (omega (arith, c.loop-step.invariant.replies));
      accepted = rw (take_more steps i d lt, c.in_ok-push.ensures.items)
          (c.take_step-reply.ensures.accepted ∙ ap (λ t. t ++ accepted_line (get_or steps i d) reply) c.loop-step.invariant.accepted
          ∙ sym (accepted_more (take i steps) past (get_or steps i d) reply (omega (arith, c.loop-step.invariant.replies, n))));
      flushed = rw c.in_ok-push.ensures.items
          (flushed_last (samples_held c.take_step-reply.new.aggregator ≡ []) Flush steps past d reply i (i + 1 - 1) (omega arith) lt
          c.loop-step.invariant.replies c.take_step-reply.ensures.flushed);
      limits = c.take_step-reply.ensures.limits ∙ c.loop-step.invariant.limits;
    }

-- the record has the accepted lines of the run
all_accepted : (steps : List Step) (replies : List Reply) (n : ℕ) (lines : List (List ℕ)) → length steps ≤ n
    → lines ≡ accepted_lines (take n steps) replies → lines ≡ accepted_lines steps replies
all_accepted steps replies n lines long same = same ∙ ap (λ s. accepted_lines s replies) (take_all n steps long)

pub returns-clause-headline : goal.returns-clause-headline
returns-clause-headline g c =
    let o = c.loop-step in
    let accepted = all_accepted c.args.steps.now o.replies.items o.step-index (lines_accepted o.aggregator) c.loop-step-test.false o.invariant.accepted in
    subst (λ lines. ∥ Summarizes lines (lines_taken o.aggregator) (samples_held o.aggregator) ∥₁) accepted c.keeps_the_record.ensures.summary

pub returns-clause-origins : goal.returns-clause-origins
returns-clause-origins g c =
    let o = c.loop-step in
    let accepted = all_accepted c.args.steps.now o.replies.items o.step-index (lines_accepted o.aggregator) c.loop-step-test.false o.invariant.accepted in
    subst (λ lines. ∥ All (ComesFrom c.args.limits.most_bytes lines) (lines_taken o.aggregator) ∥₁) accepted
    (subst (λ (l : Limits). ∥ All (ComesFrom l.most_bytes (lines_accepted o.aggregator)) (lines_taken o.aggregator) ∥₁) o.invariant.limits c.keeps_the_record.ensures.origins)
