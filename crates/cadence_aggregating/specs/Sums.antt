-- What contracts see of sums of lines.
use Rattle.std.specs.Prelude.{ℕ, List}
use Rattle.cadence_stage.specs.OwnLog.{items_of}
use Rattle.cadence_aggregate.specs.Aggregate.{held}
use Rattle.cadence_aggregate.specs.Server.{Sample}
use Rattle.cadence_aggregate.specs.declared.aggregator.Aggregator.{Aggregator}
use Rattle.cadence_aggregating.specs.Accepted.{lines_of_entries}
use Rattle.cadence_aggregating.specs.Past.{SumsUpWithin}
use Rattle.cadence_aggregating.specs.declared.limits.Limits.{Limits}
use Rattle.cadence_aggregating.specs.declared.sums.Sums.{Sums}

-- the lines that were accepted, in order
abbrev pub accepted_by : Sums → List (List ℕ)
accepted_by s = lines_of_entries (items_of s.accepted)

-- what the lines of the next flush say
abbrev pub held_by : Sums → List Sample
held_by s = held s.aggregator

-- what may be held, and how long a line may be
abbrev pub limits_of : Sums → Limits
limits_of s = s.limits

-- what holds what lines say
abbrev pub aggregator_of : Sums → Aggregator
aggregator_of s = s.aggregator

-- What was sent, with what is held, is a summary of the accepted lines, and packed values make no line longer than the
-- limit.
abbrev pub HasSummary : Sums → List Sample → Type 0
HasSummary s sent = ∥ SumsUpWithin (limits_of s).most_bytes (accepted_by s) sent (held_by s) ∥₁

-- The sink was sent the first samples before a call, and the second ones after it. If there was a summary, there still is.
abbrev pub KeepsSummary : Sums → Sums → List Sample → List Sample → Type 0
KeepsSummary old new before after = HasSummary old before → HasSummary new after
