use Rattle.std.proofs.Common.{◌≡◌, ◌≤◌, map, take, vec_len}
use Rattle.std.specs.Vec.{vec_capacity}
use Rattle.cadence_value.specs.Values.{count_in}
use Rattle.cadence_value.proofs.value.durations.counts.Given as goal

abbrev pub invariant-loop-duration : goal.invariant-loop-duration
invariant-loop-duration g l = record {
  so_far : l.numbers.items ≡ map (count_in l.unit) (take l.duration-index l.durations.items);
  counted : vec_len l.numbers ≡ l.duration-index;
  room : vec_len l.durations ≤ vec_capacity l.numbers;
}
