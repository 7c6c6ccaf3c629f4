-- What contracts say of a taker.
use Rattle.std.specs.Prelude.{Bool, List, is_some}
use Rattle.cadence_stage.specs.OwnLog.{items_of}
use Rattle.cadence_queue.specs.Hand.{texts_by}
use Rattle.cadence_queue.specs.declared.taking.taker.Taker.{Taker}

module _ {T A M N : Type 0} {n : _} where
  -- the texts that the taker moved out of its queue, in order
  abbrev pub taken_by : Taker T A M N n → List T
  taken_by t = texts_by t.hand

  -- the texts that its `next` returned, in order
  abbrev pub given_by : Taker T A M N n → List T
  given_by t = items_of t.given

  -- whether its `next` returned `None`
  abbrev pub has_ended : Taker T A M N n → Bool
  has_ended t = is_some t.end
