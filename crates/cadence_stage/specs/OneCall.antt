-- What contracts see of a call that is still to be made.
use Rattle.cadence_stage.specs.declared.one_call.OneCall.{OneCall}

-- the sink that is to be called
abbrev pub sink_of : {S : Type 0} → OneCall S → S
sink_of call = call.sink.now
