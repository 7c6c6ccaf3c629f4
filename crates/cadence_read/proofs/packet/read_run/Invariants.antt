use Rattle.std.proofs.Common.{map, take}
use Rattle.cadence_text.specs.Owned.{metrics_of}
use Rattle.cadence_read.specs.Listed.{AreListed}
use Rattle.cadence_read.proofs.packet.read_run.Given as goal

abbrev pub invariant-loop-packet : goal.invariant-loop-packet
invariant-loop-packet g l = AreListed (take l.packet-index (map (λ packet. packet.items) l.packets)) (metrics_of l.metrics)
