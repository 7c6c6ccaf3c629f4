use Rattle.std.proofs.Common.{◌≡◌, ◌++◌, length}
use Rattle.cadence_queue.specs.Hand.{texts_by}
use Rattle.cadence_queue.specs.RecordedQueue.{accepted_by, core_of, taken_from}
use Rattle.cadence_queue.specs.QueueTaken.{AreTaken}
use Rattle.cadence_queue.proofs.recorded_queue.RecordedQueue.take_some.Given as goal

abbrev pub invariant-loop : goal.invariant-loop
invariant-loop g l = record {
  noted : taken_from l.self ≡ taken_from l.fn.self ++ l.texts.items;
  told : texts_by l.hand ≡ texts_by l.fn.hand ++ l.texts.items;
  same : accepted_by l.self ≡ accepted_by l.fn.self;
  taken : AreTaken (core_of l.fn.self) l.texts.items (core_of l.self);
  room : l.texts.capacity ≡ l.fn.texts.capacity;
  each : length l.texts.items ≡ l.counter;
}
