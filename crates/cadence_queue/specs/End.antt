-- What contracts say of what a taker leaves at the end of its queue.
use Rattle.std.specs.Prelude.{List}
use Rattle.cadence_queue.specs.Hand.{texts_by}
use Rattle.cadence_queue.specs.declared.taking.end.TakerEnd.{TakerEnd}

-- the texts that the taker took, the oldest first
abbrev pub texts_of : {T N : Type 0} {n : _} → TakerEnd T N n → List T
texts_of e = texts_by e.hand
