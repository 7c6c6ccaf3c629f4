use Rattle.std.proofs.Common.{◌≡◌, ◌^◌, ◌≤◌, ◌-◌, pos, ◌*ℤ◌}
use Rattle.cadence_value.proofs.decimal.Decimal.new.Given as goal

abbrev pub invariant-loop-places : goal.invariant-loop-places
invariant-loop-places l = record { fewer : l.places ≤ l.fn.places; same : l.fn.mantissa ≡ l.mantissa *ℤ pos (10 ^ (l.fn.places - l.places)) }

abbrev pub decreases-loop-places : goal.decreases-loop-places
decreases-loop-places l = l.places
