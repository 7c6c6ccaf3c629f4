-- The names of the logs of a queue and of the sink that its worker feeds.
use Rattle.std.specs.Prelude.{◌≡◌, ℕ, Option, Some, None}
use Rattle.cadence_stage.specs.declared.ghost_log.Log.{Log}
use Rattle.cadence_stage.specs.declared.ghost_log.Right.{Right}

pub record LogNames : Type 0 where
  -- the log of the texts that the queue accepted
  pub accepted : ℕ
  -- the log of the texts that were taken from the queue
  pub taken : ℕ
  -- the log that has an item once the queue has come to its end
  pub ended : ℕ
  -- the log of the lines that the sink was given
  pub fed : ℕ

-- One of two rights adds to this log: the first one if the logs have no names, and the second one if they have.
abbrev pub MayNote : {T : Type 0} → Option LogNames → Log T → Right T → Right T → Type 0
MayNote None log own lent = own.name ≡ log.name
MayNote (Some names) log own lent = lent.name ≡ log.name
