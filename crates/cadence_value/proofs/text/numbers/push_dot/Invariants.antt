use Rattle.std.proofs.Common.{replicate}
use Rattle.cadence_value.specs.Takes.{Takes}
use Rattle.cadence_value.proofs.text.numbers.push_dot.Given as goal

abbrev pub invariant-loop-i : goal.invariant-loop-i
invariant-loop-i g l = Takes g.S.ByteWriter.ends_as l.initial.line (replicate l._i 48) l.line
