use Rattle.cadence_aggregating.proofs.Records.{none_within}
use Rattle.cadence_aggregating.proofs.sums.Sums.new.Goals as goal

pub returns-clause-summary : goal.returns-clause-summary
returns-clause-summary c = rw (c.new-3.ensures, c.in_ok-aggregator.ensures.none) (∣ none_within c.args.limits.most_bytes ∣₁)
