use Rattle.std.proofs.Common.{ℕ, ◌<◌, ◌≤◌, ◌-◌, length, get_or}
use Rattle.cadence_text.specs.OneReading.{IsNoTagEnd}
use Rattle.cadence_text.proofs.line.separators.is_free_after_key.Given as goal

abbrev pub decreases-loop-at : goal.decreases-loop-at
decreases-loop-at l = length l.text - l.at

abbrev pub invariant-loop-at : goal.invariant-loop-at
invariant-loop-at l = record {
  within : l.at ≤ length l.text;
  front : (k : ℕ) → k < l.at → IsNoTagEnd (get_or l.text k 0);
}
