use Rattle.std.proofs.Common.{rules}
use Rattle.std.proofs.Math.Path.{subst}
use Rattle.cadence_flow.proofs.metric_sink.BoxDynMetricSinkSendSyncMetricSink.emit.Goals as goal

pub returns : goal.returns
returns g c = subst (λ p. (goal.MetricSink-dyn g p).may_answer p.1 c.args.line.now c.emit.result) (search rules) c.emit.ensures
