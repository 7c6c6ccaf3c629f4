use Rattle.std.proofs.Common.{rules}
use Rattle.std.proofs.Math.Path.{subst}
use Rattle.cadence_flow.proofs.metric_sink.BoxDynMetricSinkSendSyncMetricSink.flush.Goals as goal

pub returns : goal.returns
returns g c = subst (λ p. (goal.MetricSink-dyn g p).may_flush p.1 c.flush.result) (search rules) c.flush.ensures
