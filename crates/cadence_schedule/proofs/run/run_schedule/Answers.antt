use Rattle.std.proofs.Common.{[]}
use Rattle.cadence_schedule.proofs.history.NoneDropped.{on_ok, none_dropped}
use Rattle.cadence_schedule.proofs.run.run_schedule.Goals as goal

pub returns-clause-none_dropped : goal.returns-clause-none_dropped
returns-clause-none_dropped g c =
    on_ok _ _ c.run_schedule_with.result (λ report both. none_dropped _ _ _ _ _ [] _ both.0.replies.causes) c.run_schedule_with.ensures.headline
