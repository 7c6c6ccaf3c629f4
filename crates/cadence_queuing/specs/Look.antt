-- What a look at a queue and at the stage that its worker feeds shows.
use Rattle.std.specs.Prelude.{List, String}
use Rattle.cadence_stage.specs.Call.{Call}
use Rattle.cadence_stage.specs.declared.names.Named.{Named}
use Rattle.cadence_queue.specs.RecordedQueue.{accepted_by, core_of, taken_from}
use Rattle.cadence_queue.specs.declared.policy.QueuePolicy.{QueuePolicy}
use Rattle.cadence_queue.specs.declared.recorded_queue.RecordedQueue.{RecordedQueue}
use Rattle.cadence_queuing.specs.declared.fed.FedStage.{FedStage}
use Rattle.cadence_queuing.specs.Fed.{calls_of, fed_stage}
use Rattle.cadence_queuing.specs.declared.queuing.look_of.Look.{Look}

module _ {S A J : Type 0} {s j n : _} where
  -- the queue, with its record
  abbrev pub queue_at : Look S A J s j n → RecordedQueue (String A) A (Named J) n
  queue_at l = l.queue.value

  -- the stage, with its log
  abbrev pub fed_at : Look S A J s j n → FedStage S A J s j
  fed_at l = l.stage.value

  -- the lines that the queue had accepted, the oldest first
  abbrev pub texts_accepted : Look S A J s j n → List (String A)
  texts_accepted l = accepted_by l.queue.value

  -- the lines that were taken from the queue, the oldest first
  abbrev pub texts_taken : Look S A J s j n → List (String A)
  texts_taken l = taken_from l.queue.value

  -- what the queue does with a line when it is full
  abbrev pub policy_at : Look S A J s j n → QueuePolicy
  policy_at l = (core_of l.queue.value).policy

  -- the lines that the stage was given, each with its answer, the oldest first
  abbrev pub calls_at : Look S A J s j n → List Call
  calls_at l = calls_of l.stage.value

  -- the stage
  abbrev pub stage_at : Look S A J s j n → S
  stage_at l = fed_stage l.stage.value
