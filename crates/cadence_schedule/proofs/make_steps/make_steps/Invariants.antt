use Rattle.std.proofs.Common.{◌≡◌, ◌+◌, ◌≤◌, All, length, take, vec_capacity}
use Rattle.std.specs.List.{zip}
use Rattle.cadence_text.specs.Representable.{IsRepresentable}
use Rattle.cadence_settings.specs.CallData.{line_of_data, metric_of_data}
use Rattle.cadence_schedule.specs.RunHistory.{accepted}
use Rattle.cadence_schedule.specs.Running.{Runs}
use Rattle.cadence_schedule.proofs.make_steps.make_steps.Given as goal

abbrev pub invariant-loop-step : goal.invariant-loop-step
invariant-loop-step g l =
    record {
      count : length l.replies.items ≡ l.step-index;
      replies_room : length l.steps ≤ vec_capacity l.replies;
      runs : Runs g.S.Stage.step (line_of_data l.settings) l.fn.queue.capacity l.fn.queue.policy l.fn.stage l.running
          (zip (take l.step-index l.steps) l.replies.items);
      representable : All IsRepresentable (accepted (metric_of_data l.settings) (zip (take l.step-index l.steps) l.replies.items));
    }
