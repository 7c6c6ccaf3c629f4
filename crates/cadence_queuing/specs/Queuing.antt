-- What contracts show of a queuing sink, of a repeater and of a flushing sink, whose fields are private.
use Rattle.std.specs.Prelude.{◌≡◌, ◌≢◌, ℕ, List, Option, None, Result, Err}
use Rattle.std.specs.Arc.{arc_value}
use Rattle.std.specs.declared.time.Duration.{Duration}
use Rattle.cadence_errors.specs.declared.SinkError.{SinkError}
use Rattle.cadence_errors.specs.declared.SinkError.TheVariants.{ChannelFull, Io, OutOfMemory}
use Rattle.cadence_queue.specs.Answers.{IsQueueAnswer}
use Rattle.cadence_errors.specs.declared.MetricError.{MetricError}
use Rattle.cadence_errors.specs.declared.MetricError.TheVariants.{Sink}
use Rattle.cadence_queue.specs.declared.policy.QueuePolicy.{QueuePolicy}
use Rattle.cadence_queue.specs.SharedQueue.{bound_of, rule_of}
use Rattle.cadence_queuing.specs.declared.flushing.FlushingMetricSink.{FlushingMetricSink}
use Rattle.cadence_queuing.specs.declared.repeater.Repeater.{Repeater}
use Rattle.cadence_queuing.specs.declared.queuing.sink.QueuingMetricSink.{QueuingMetricSink}

-- A queuing or a flushing sink is not made because memory ran out, or because the thread could not be started.
abbrev pub IsQueuingRefusal : MetricError → Type 0
IsQueuingRefusal (Sink OutOfMemory) = Unit {0}
IsQueuingRefusal (Sink (Io e)) = Unit {0}
IsQueuingRefusal _ = ⊥

-- the sink that a queuing sink wraps
abbrev pub wrapped_sink : {S R A N : Type 0} {n : _} → QueuingMetricSink S R A N n → S
wrapped_sink q = (arc_value q.shared).sink

-- the work that a repeater shares with its thread
abbrev pub repeated_work : {W R A : Type 0} → Repeater W R A → W
repeated_work r = arc_value r.work

-- the sink that a flushing sink wraps
abbrev pub flushed_sink : {S R A : Type 0} → FlushingMetricSink S R A → S
flushed_sink f = (repeated_work f.repeater).sink

-- the capacity of a queuing sink's queue in lines, or none if it has no bound
abbrev pub queue_capacity : {S R A N : Type 0} {n : _} → QueuingMetricSink S R A N n → Option ℕ
queue_capacity q = bound_of (arc_value q.shared).queue

-- The result of an `emit` into a queue of this capacity is the length of the line, or an error of a queue. A queue
-- without a capacity is never full.
pub record IsQueuingAnswer (bound : Option ℕ) (line : List ℕ) (answer : Result ℕ SinkError) : Type 0 where
  pub queue : IsQueueAnswer line answer
  pub unbounded : bound ≡ None → answer ≢ Err ChannelFull

-- what a queuing sink's queue does with a line when it is full
abbrev pub queue_policy : {S R A N : Type 0} {n : _} → QueuingMetricSink S R A N n → QueuePolicy
queue_policy q = rule_of (arc_value q.shared).queue

-- after which time the worker of a queuing sink flushes the wrapped sink, or none if it never does
abbrev pub flush_period : {S R A N : Type 0} {n : _} → QueuingMetricSink S R A N n → Option Duration
flush_period q = (arc_value q.shared).period
