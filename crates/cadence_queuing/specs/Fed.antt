-- What contracts see of a stage that one worker feeds.
use Rattle.std.specs.Prelude.{List, String, map}
use Rattle.cadence_stage.specs.Call.{Call, call_of}
use Rattle.cadence_queuing.specs.declared.fed.FedStage.{FedStage}

module _ {S A J : Type 0} {s j : _} where
  -- the stage
  abbrev pub fed_stage : FedStage S A J s j → S
  fed_stage f = f.stage

  -- the lines that the stage was given, each with its answer, the oldest first
  abbrev pub calls_of : FedStage S A J s j → List Call
  calls_of f = map call_of f.fed.items

  -- texts that were taken from the queue, the oldest first: those that the stage was given, and perhaps more
  abbrev pub texts_seen : FedStage S A J s j → List (String A)
  texts_seen f = f.from.items
