use Rattle.std.proofs.Common.{◌≡◌, ◌+◌, All, List, length, take, refl, sym, ap, ◌∙◌, subst, arith, [], ◌∷◌, ◌++◌, map, string_bytes}
use Rattle.std.specs.List.{zip}
use Rattle.std.proofs.lemmas.List.{take_all, take_more, length-take-le, length_push}
use Rattle.std.proofs.lemmas.List.Elements.{All-nil}
use Rattle.cadence_text.specs.Representable.{IsRepresentable}
use Rattle.cadence_settings.specs.CallData.{line_of_data, metric_of_data}
use Rattle.cadence_schedule.specs.Moves.{at_start}
use Rattle.cadence_schedule.specs.RunHistory.{accepted}
use Rattle.cadence_schedule.specs.Running.{Runs}
use Rattle.cadence_schedule.specs.declared.steps.Step.{Step}
use Rattle.cadence_schedule.proofs.headline.RunOfTurns.{accepted_push, runs_more, zip_push}
use Rattle.cadence_schedule.proofs.make_steps.make_steps.Goals as goal

pub loop-step-preserved : goal.loop-step-preserved
loop-step-preserved g c =
    let i = c.loop-step.step-index in
    let steps = c.args.steps.now in
    let replies = c.loop-step.replies.items in
    let one = c.step-item.result in
    let answer = c.step-reply.result in
    let before = c.loop-step.invariant in
    let call = c.step-reply.ensures in
    let leads = g.S.Stage.step in
    let short : length (take i steps) ≡ length replies = length-take-le i steps (omega arith) ∙ sym before.count in
    let more : take (i + 1) steps ≡ take i steps ++ one ∷ [] = take_more steps i one c.loop-step-test.true ∙ ap (λ s. take i steps ++ s ∷ []) (sym c.step-item.is) in
    let turns : zip (take (i + 1) steps) c.push.new.self.items ≡ zip (take i steps) replies ++ (one, answer) ∷ [] =
    (λ j. zip (more j) (c.in-Ok.ensures.items j)) ∙ zip_push (take i steps) replies one answer short in
    record {
      count = omega (arith, ap (λ l. length l) c.in-Ok.ensures.items, length_push replies answer, before.count);
      replies_room = omega (arith, c.in-Ok.ensures.capacity, before.replies_room);
      runs = subst (λ ts. Runs leads (line_of_data c.args.settings.now) c.args.queue.capacity c.args.queue.policy c.args.stage c.step-reply.new.self ts) (sym turns)
          (runs_more (line_of_data c.args.settings.now) c.args.queue.capacity c.args.queue.policy leads c.args.stage c.loop-step.running c.step-reply.new.self (zip (take i steps) replies) (one, answer)
          before.runs call.queue call.leads);
      representable =
          accepted_push IsRepresentable (metric_of_data c.args.settings.now) (take i steps) (take (i + 1) steps) replies c.push.new.self.items one
          answer short more c.in-Ok.ensures.items before.representable call.representable;
    }

pub loop-step-init : goal.loop-step-init
loop-step-init g c = record {
  count = ap (λ l. length l) c.requires.replies.0;
  replies_room = c.requires.replies.1;
  runs = record {
    given = [];
    goes = (
      refl,
      (λ i. record at_start {
        waiting = map string_bytes (c.requires.queue i).waiting;
        stopped = (c.requires.queue i).stopped;
        submitted = (c.requires.queue i).submitted;
        drained = (c.requires.queue i).drained;
        dropped = (c.requires.queue i).dropped;
      }),
    );
    led = refl;
    same_queue = refl;
    same_policy = refl;
  };
  representable = All-nil IsRepresentable;
}

pub returns-clause-representable : goal.returns-clause-representable
returns-clause-representable g c =
    let steps = c.args.steps.now in
    subst (λ (some : List (Step g.row.A.Denot)). All IsRepresentable (accepted (metric_of_data c.args.settings.now)
    (zip some c.loop-step.replies.items))) (take_all c.loop-step.step-index steps c.loop-step-test.false) c.loop-step.invariant.representable
