-- What contracts see of a sink that several owners share.
use Rattle.std.specs.Arc.{arc_value}
use Rattle.cadence_aggregating.specs.declared.shared.SharedSink.{SharedSink}

-- the sink
abbrev pub shared_sink : {S : Type 0} → SharedSink S → S
shared_sink s = arc_value s.shared
