use Rattle.std.proofs.Common.{◌≡◌, ◌++◌, ◌+◌, drop, take, Ok}
use Rattle.cadence_aggregate.specs.Held.{held_sums}
use Rattle.cadence_aggregate.proofs.sums.send_due_sums.Given as goal

-- what is sent and is due stays the same, and so does the rest, one entry less is due after each turn, and the sink's
-- first state leads to the one now
abbrev pub invariant-loop : goal.invariant-loop
invariant-loop g l = record {
  same : g.S.LineSink.sent l.sink ++ take l.due (held_sums l.sums.entries) ≡ g.S.LineSink.sent l.fn.sink ++ take l.fn.due (held_sums l.fn.sums.entries);
  rest : drop l.due (held_sums l.sums.entries) ≡ drop l.fn.due (held_sums l.fn.sums.entries);
  left : l.due + l.counter ≡ l.fn.due;
  leads : g.S.LineSink.leads l.fn.sink (Ok tt) l.sink;
}
