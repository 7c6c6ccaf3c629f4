use Rattle.std.proofs.Common.{◌≡◌, ◌++◌, string_bytes, take}
use Rattle.cadence_cli.specs.Escapes.{escaped_bytes}
use Rattle.cadence_cli.proofs.escapes.push_bytes.Given as goal

abbrev pub invariant-loop-byte : goal.invariant-loop-byte
invariant-loop-byte g l = string_bytes l.out ≡ string_bytes l.initial.out ++ escaped_bytes (take l.byte-index l.bytes)
