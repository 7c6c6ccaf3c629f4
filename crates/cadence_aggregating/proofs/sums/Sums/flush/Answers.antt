use Rattle.std.proofs.Math.Logic.{∥∥₁_map}
use Rattle.cadence_aggregate.specs.Aggregate.{held}
use Rattle.cadence_aggregating.specs.Sums.{accepted_by, held_by}
use Rattle.cadence_aggregating.proofs.Records.{past_flushed}
use Rattle.cadence_aggregating.proofs.sums.Sums.flush.Goals as goal

pub returns-clause-summary : goal.returns-clause-summary
returns-clause-summary g c = λ past.
    let old = c.args.self.now in
    let sent = g.S.LineSink.sent in
    ∥∥₁_map past (λ p. past_flushed old.limits.most_bytes (accepted_by old) (sent c.args.sink.now) (held_by old) (sent c.flush.new.sink)
    (held c.flush.new.self) p c.flush.ensures.same)
