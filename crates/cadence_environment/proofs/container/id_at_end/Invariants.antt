use Rattle.std.proofs.Common.{◌≡◌, length}
use Rattle.cadence_environment.specs.Containers.{id_at_end}
use Rattle.cadence_environment.proofs.container.id_at_end.Given as goal

abbrev pub invariant-loop-rest : goal.invariant-loop-rest
invariant-loop-rest l = id_at_end l.rest l.is_last ≡ id_at_end l.text l.is_last

abbrev pub decreases-loop-rest : goal.decreases-loop-rest
decreases-loop-rest l = length l.rest
