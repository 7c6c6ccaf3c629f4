use Rattle.std.proofs.Common.{◌≡◌, map, take}
use Rattle.cadence_host.specs.Calls.{in_millis}
use Rattle.cadence_host.proofs.value.millis_value.Given as goal

abbrev pub invariant-loop-nanos : goal.invariant-loop-nanos
invariant-loop-nanos l = l.millis.items ≡ map in_millis (take l.nanos-index l.nanos)
