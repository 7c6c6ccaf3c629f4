use Rattle.std.proofs.Common.{◌-◌, ◌<◌, ◌≤◌, ◌+◌, length}
use Rattle.cadence_listen.specs.Places.{IsPlace}
use Rattle.cadence_listen.proofs.place.find_place.Given as goal

abbrev pub decreases-loop-bad : goal.decreases-loop-bad
decreases-loop-bad g l = l.bad - l.good

abbrev pub invariant-loop-bad : goal.invariant-loop-bad
invariant-loop-bad g l = record {
  place : IsPlace l.fn.line l.good;
  order : l.good < l.bad;
  most : l.bad ≤ length l.fn.line + 1;
}
