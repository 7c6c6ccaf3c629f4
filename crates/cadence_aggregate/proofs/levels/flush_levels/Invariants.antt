use Rattle.std.proofs.Common.{◌≡◌, ◌++◌, ◌+◌, length, Ok}
use Rattle.cadence_aggregate.specs.Held.{held_levels}
use Rattle.cadence_aggregate.proofs.levels.flush_levels.Given as goal

-- what is sent and held stays the same, one entry less is left after each turn, and the sink's first state
-- leads to the one now
abbrev pub invariant-loop : goal.invariant-loop
invariant-loop g l = record {
  same : g.S.LineSink.sent l.sink ++ held_levels l.levels.entries ≡ g.S.LineSink.sent l.fn.sink ++ held_levels l.fn.levels.entries;
  left : length l.levels.entries + l.counter ≡ length l.fn.levels.entries;
  leads : g.S.LineSink.leads l.fn.sink (Ok tt) l.sink;
}
