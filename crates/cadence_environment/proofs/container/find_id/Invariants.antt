use Rattle.std.proofs.Common.{◌≡◌, length}
use Rattle.cadence_environment.specs.Containers.{container_of}
use Rattle.cadence_environment.proofs.container.find_id.Given as goal

abbrev pub invariant-loop-line : goal.invariant-loop-line
invariant-loop-line l = container_of l.rest ≡ container_of l.text

abbrev pub decreases-loop-line : goal.decreases-loop-line
decreases-loop-line l = length l.rest
