-- What contracts see of a log together with its right.
use Rattle.std.specs.Prelude.{ℕ, List}
use Rattle.cadence_stage.specs.declared.ghost_log.OwnLog.{OwnLog}

module _ {T : Type 0} where
  -- the items, the oldest first
  abbrev pub items_of : OwnLog T → List T
  items_of l = l.log.items

  -- the name of the log
  abbrev pub name_of : OwnLog T → ℕ
  name_of l = l.log.name
