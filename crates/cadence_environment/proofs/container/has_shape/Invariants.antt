use Rattle.std.proofs.Common.{◌≡◌, length}
use Rattle.cadence_environment.specs.Containers.{has_shape}
use Rattle.cadence_environment.proofs.container.has_shape.Given as goal

abbrev pub invariant-loop-signs : goal.invariant-loop-signs
invariant-loop-signs l = has_shape l.signs l.rest ≡ has_shape l.shape l.text

abbrev pub decreases-loop-signs : goal.decreases-loop-signs
decreases-loop-signs l = length l.signs
