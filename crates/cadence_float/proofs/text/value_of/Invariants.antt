use Rattle.std.proofs.Common.{◌≡◌, take, ◌+◌, ◌*◌, ◌^◌, ◌<◌}
use Rattle.std.specs.Str.Parse.{digits_value}
use Rattle.cadence_float.proofs.text.value_of.Given as goal

abbrev pub invariant-loop-byte : goal.invariant-loop-byte
invariant-loop-byte l =
    (l.value ≡ l.fn.so_far * 10 ^ l.byte-index + digits_value 10 (take l.byte-index l.digits))
    × (l.value < (l.fn.so_far + 1) * 10 ^ l.byte-index)
