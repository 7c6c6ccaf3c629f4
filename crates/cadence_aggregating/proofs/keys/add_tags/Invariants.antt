use Rattle.std.proofs.Common.{◌≡◌, map, take}
use Rattle.std.specs.List.{fold}
use Rattle.cadence_settings.specs.Call.{chosen}
use Rattle.cadence_text.specs.Draft.{draft_of}
use Rattle.cadence_text.specs.Metric.{Metric}
use Rattle.cadence_text.specs.Record.{tag_of}
use Rattle.cadence_aggregating.specs.Contexts.{sent_tag}
use Rattle.cadence_aggregating.proofs.keys.add_tags.Given as goal

-- The draft has the first tags.
abbrev pub invariant-loop-tag : goal.invariant-loop-tag
invariant-loop-tag l =
    (m : Metric) → l.fn.draft ≡ draft_of m → l.draft ≡ draft_of (fold chosen m (map (λ tag. sent_tag l.is_cleaned (tag_of tag)) (take l.tag-index l.tags)))
