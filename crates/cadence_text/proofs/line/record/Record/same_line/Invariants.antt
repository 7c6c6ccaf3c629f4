use Rattle.std.proofs.Common.{◌≡◌, ◌-◌, ◌≤◌, length, take}
use Rattle.cadence_text.specs.Line.{line_of}
use Rattle.cadence_text.proofs.line.record.Record.same_line.Given as goal

-- The lines are alike as far as they were skipped.
abbrev pub invariant-loop-ours : goal.invariant-loop-ours
invariant-loop-ours g l = record {
  alike : take l.skip (line_of l.self) ≡ take l.skip (line_of l.other);
  within : l.skip ≤ length (line_of l.self);
}

abbrev pub decreases-loop-ours : goal.decreases-loop-ours
decreases-loop-ours g l = length (line_of l.self) - l.skip
