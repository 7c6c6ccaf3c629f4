-- What the record of a queue says of its past.
use Rattle.std.specs.Prelude.{◌≡◌, List, [], ◌∷◌}
use Rattle.cadence_queue.specs.QueueModel.{Exit, by_take, by_drop, IsQueueOf}
use Rattle.cadence_queue.specs.QueueState.{Queue}

module _ {T : Type 0} where
  -- those of some texts that were taken, if the exits say how each of the texts left the queue, the oldest first
  abbrev pub texts_taken : List Exit → List T → List T
  texts_taken [] texts = []
  texts_taken (e ∷ exits) [] = []
  texts_taken (by_take ∷ exits) (text ∷ texts) = text ∷ texts_taken exits texts
  texts_taken (by_drop ∷ exits) (text ∷ texts) = texts_taken exits texts

  -- These are the texts that the queue accepted, and those that were taken from it, in order. Each accepted text was
  -- taken or was dropped, or it waits, as the queue's model says (`IsQueueOf`).
  pub record IsPast (accepted taken : List T) (q : Queue T) : Type 0 where
    pub exits : List Exit
    pub queue : IsQueueOf accepted exits q
    pub takes : taken ≡ texts_taken exits accepted
