use Rattle.std.proofs.Common.{◌≡◌, List, false, take, ℕ}
use Rattle.cadence_text.specs.Draft.{draft_with}
use Rattle.cadence_text.specs.Metric.{Metric}
use Rattle.cadence_host.specs.Calls.{with_c_tags}
use Rattle.cadence_host.proofs.line.add_same_tags.Given as goal

-- The draft has the first tags.
abbrev pub invariant-loop-tag : goal.invariant-loop-tag
invariant-loop-tag l =
    (m : Metric) (value : List ℕ) → l.fn.draft ≡ draft_with value m → l.draft ≡ draft_with value (with_c_tags false m (take l.tag-index l.tags))
