use Rattle.std.proofs.Common.{◌≡◌, arith, ap, map, None, Some}
use Rattle.std.specs.Prelude.{string_bytes}
use Rattle.std.specs.Option.{option_map}
use Rattle.std.proofs.lemmas.Grind.{common_steps}
use Rattle.cadence_schedule.specs.Running.{queue_state}
use Rattle.cadence_schedule.proofs.running.Running.take.Goals as goal

pub returns-in-Text-clause-queue : goal.returns-in-Text-clause-queue
returns-in-Text-clause-queue g c = λ line_of.
    let none : c.args.self.now.in_hand ≡ None = grind (arith, common_steps) in
    let queues = c.in-Text.ensures.taken in
    record {
      moves = (
        ap (option_map string_bytes) none,
        (
          string_bytes c.in-Text.line,
          map string_bytes c.take.new.self.waiting,
          ap (map string_bytes) queues.0,
          omega arith,
          (λ i. record (queue_state c.args.self.now) {
            waiting = map string_bytes c.take.new.self.waiting;
            drained = (queues.1 i).drained;
            stopped = (queues.1 i).stopped;
            submitted = (queues.1 i).submitted;
            dropped = (queues.1 i).dropped;
            in_hand = Some (string_bytes c.in-Text.line);
          }),
        ),
      );
      same_queue = ap (λ k. k.capacity) queues.1;
      same_policy = ap (λ k. k.policy) queues.1;
    }
