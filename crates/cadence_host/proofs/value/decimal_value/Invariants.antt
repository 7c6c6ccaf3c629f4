use Rattle.std.proofs.Common.{take}
use Rattle.cadence_host.specs.Calls.{AreNumbersOf}
use Rattle.cadence_host.proofs.value.decimal_value.Given as goal

abbrev pub invariant-loop-value : goal.invariant-loop-value
invariant-loop-value l = AreNumbersOf (take l.value-index l.values) l.numbers.items
