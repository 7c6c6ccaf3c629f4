-- What contracts say of the right to take texts out of a queue.
use Rattle.std.specs.Prelude.{List}
use Rattle.cadence_stage.specs.OwnLog.{items_of}
use Rattle.cadence_queue.specs.declared.taking.hand.Hand.{Hand}

-- the texts that were taken by this right, the oldest first
abbrev pub texts_by : {T N : Type 0} {n : _} → Hand T N n → List T
texts_by h = items_of h.texts
