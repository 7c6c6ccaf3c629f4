use Rattle.std.proofs.Common.{subst, sym}
use Rattle.cadence_aggregating.specs.Shown.{EndsFlush}
use Rattle.cadence_aggregating.proofs.recorded.stage.RecordedAggregatorStage.send_rest.Goals as goal

pub returns : goal.returns
returns g c =
    let (before, ended) = c.loop.invariant in
    (before, subst (λ r. EndsFlush before c.loop.self g.S.MetricSink.may_flush r) (sym c.ok_or.ensures.value) ended)
