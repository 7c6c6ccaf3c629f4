-- What contracts see of a handler of errors.
use Rattle.std.specs.declared.dyn_box.DynBox.{DynBox}
use Rattle.cadence_flow.specs.declared.handler.Handler.{Handler}

-- the closure that a handler calls
abbrev pub closure_of : {A Y : Type 0} {G : Y → Type 0} {g : _} → Handler A Y G g → DynBox Y A G
closure_of h = h.call
