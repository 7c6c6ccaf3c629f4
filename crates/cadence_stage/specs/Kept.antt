-- What contracts see of a stage whose calls leave receipts, and of a receipt.
use Rattle.std.specs.Prelude.{◌≡◌}
use Rattle.cadence_stage.specs.Call.{Call}
use Rattle.cadence_stage.specs.declared.kept.Kept.{Kept}
use Rattle.cadence_stage.specs.declared.kept.Receipt.{Receipt}

module _ {S : Type 0} where
  -- the stage
  abbrev pub stage_of : Kept S → S
  stage_of k = k.stage

  -- the stage before the call, and after it
  abbrev pub before_of : Receipt S → S
  before_of r = r.before.value

  abbrev pub after_of : Receipt S → S
  after_of r = r.after.value

  -- The receipt shows these two states of the stage.
  abbrev pub IsBetween : S → S → Receipt S → Type 0
  IsBetween old new r = (before_of r ≡ old) × (after_of r ≡ new)

  -- The receipt shows two states of a stage. This call leads from the first to the second.
  abbrev pub Shows : (S → S → Call → Type 0) → Receipt S → Call → Type 0
  Shows step r call = step (before_of r) (after_of r) call

  -- This call leads from some state of a stage to another.
  pub record IsStep (step : S → S → Call → Type 0) (call : Call) : Type 0 where
    pub old : S
    pub new : S
    pub made : step old new call
