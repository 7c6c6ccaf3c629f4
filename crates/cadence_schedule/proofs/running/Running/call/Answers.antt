use Rattle.std.proofs.Common.{map, refl, string_bytes}
use Rattle.cadence_queue.specs.Queue.{at_capacity, drops_for_room}
use Rattle.cadence_text.specs.Representable.{IsRepresentable}
use Rattle.cadence_settings.specs.CallData.{line_of_data, metric_of_data}
use Rattle.cadence_schedule.proofs.history.CallReplies.{call_fails}
use Rattle.cadence_schedule.proofs.history.KeptMetrics.{all_of_option}
use Rattle.cadence_schedule.proofs.running.Running.call.Goals as goal

pub returns-in-Err-clause-queue : goal.returns-in-Err-clause-queue
returns-in-Err-clause-queue g c =
    let old = c.args.self.now in
    record {
      moves = (
        call_fails (line_of_data c.args.settings.now c.args.call.now) old.queue.stopped
            (at_capacity old.queue.capacity (map string_bytes old.queue.waiting))
            (drops_for_room old.queue.policy (map string_bytes old.queue.waiting)) c.in-Err.error c.in-Err.ensures.refused,
        refl,
      );
      same_queue = refl;
      same_policy = refl;
    }

pub returns-in-Ok-None-clause-representable : goal.returns-in-Ok-None-clause-representable
returns-in-Ok-None-clause-representable g c = all_of_option IsRepresentable (metric_of_data c.args.settings.now c.args.call.now) c.in-Ok.ensures.representable

pub returns-in-Ok-Some-clause-representable : goal.returns-in-Ok-Some-clause-representable
returns-in-Ok-Some-clause-representable g c = all_of_option IsRepresentable (metric_of_data c.args.settings.now c.args.call.now) c.in-Ok.ensures.representable
