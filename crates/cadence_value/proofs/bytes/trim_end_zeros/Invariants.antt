use Rattle.std.proofs.Common.{◌≡◌, ◌≤◌, ◌-◌, ◌++◌, length, take, replicate}
use Rattle.cadence_value.proofs.bytes.trim_end_zeros.Given as goal

abbrev pub decreases-loop-count : goal.decreases-loop-count
decreases-loop-count l = l.count

abbrev pub invariant-loop-count : goal.invariant-loop-count
invariant-loop-count l = record {
  within : l.count ≤ length l.digits;
  zeros : l.digits ≡ take l.count l.digits ++ replicate (length l.digits - l.count) 48;
}
