use Rattle.std.proofs.Common.{take}
use Rattle.cadence_host.specs.Calls.{AreNumbersOfFloats}
use Rattle.cadence_host.proofs.value.floating_value.Given as goal

abbrev pub invariant-loop-value : goal.invariant-loop-value
invariant-loop-value l = AreNumbersOfFloats l.kind (take l.value-index l.values) l.numbers.items
