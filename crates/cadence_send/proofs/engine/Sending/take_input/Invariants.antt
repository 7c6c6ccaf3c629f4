use Rattle.std.proofs.Common.{ℕ, List, []}
use Rattle.std.specs.Io.KnownBytes.{Consumes}
use Rattle.cadence_send.specs.Fed.{Feeds}
use Rattle.cadence_send.proofs.engine.Sending.take_input.Given as goal

abbrev pub invariant-loop : goal.invariant-loop
invariant-loop g l =
    (got : List ℕ) × Consumes (g.I.Read.remaining l.initial.input) (g.I.Read.remaining l.input) got
    × Feeds l.defaults g.L.LineTaker.takes l.initial.lines l.lines [] got l.buffers.waiting.items
