use Rattle.std.proofs.Common.{◌≡◌, ◌+◌, ◌≤◌, length, take}
use Rattle.cadence_events.specs.Escapes.{escaped}
use Rattle.cadence_events.proofs.escapes.escaped_len.Given as goal

abbrev pub invariant-loop-byte : goal.invariant-loop-byte
invariant-loop-byte l = record {
  fewer : l.newlines ≤ l.byte-index;
  counted : length (escaped (take l.byte-index l.byte-items)) ≡ l.byte-index + l.newlines;
}
