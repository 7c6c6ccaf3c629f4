use Rattle.std.specs.Prelude.{◌↔◌, length}
use denote.Shadow.{shadow}
use denote.Text.{Utf8}
use Rattle.cadence_read.specs.Values.{AreNumbers}
use Rattle.cadence_read.proofs.values.are_numbers.Given as goal

abbrev pub decreases-loop-value : goal.decreases-loop-value
decreases-loop-value l = length l.left

abbrev pub invariant-loop-value : goal.invariant-loop-value
invariant-loop-value l = shadow (Utf8 l.left) × (AreNumbers l.left ↔ AreNumbers l.fn.values)
