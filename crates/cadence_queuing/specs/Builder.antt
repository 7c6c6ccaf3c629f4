-- What the builder of a queuing sink sets, and what it makes.
use Rattle.std.specs.Prelude.{◌≡◌, ℕ, Option, None}
use Rattle.std.specs.Option.{option_map}
use Rattle.std.specs.declared.time.Duration.{Duration}
use Rattle.std.specs.declared.dyn_box.DynBox.{DynBox}
use Rattle.cadence_queue.specs.declared.policy.QueuePolicy.{QueuePolicy}
use Rattle.cadence_queue.specs.declared.policy.QueuePolicy.TheVariants.{Refuse}
use Rattle.cadence_flow.specs.Handler.{closure_of}
use Rattle.cadence_queuing.specs.Queuing.{wrapped_sink, queue_capacity, queue_policy, flush_period}
use Rattle.cadence_queuing.specs.declared.queuing.sink.QueuingMetricSink.{QueuingMetricSink}
use Rattle.cadence_queuing.specs.declared.queuing.builder.QueuingMetricSinkBuilder.{QueuingMetricSinkBuilder}

-- The options of a queuing sink.
pub record QueueOptions (H : Type 0) : Type 0 where
  -- the capacity of the queue in lines, or none if it has no bound
  pub capacity : Option ℕ
  -- what the queue does with a line when it is full
  pub policy : QueuePolicy
  -- the closure that receives the errors of the wrapped sink, if there is one
  pub handler : Option H
  -- after which time the worker flushes the wrapped sink, or none if it never does
  pub period : Option Duration

-- the options of a builder that has no setting
abbrev pub no_options : {H : Type 0} → QueueOptions H
no_options = record { capacity = None; policy = Refuse; handler = None; period = None }

-- the options of a queue of this capacity that has no other setting
abbrev pub plain_queue : Option ℕ → QueueOptions ⊥
plain_queue capacity = record no_options { capacity = capacity }

-- the options that a builder has
abbrev pub options_of : {A Y : Type 0} {G : Y → Type 0} {g : _} → QueuingMetricSinkBuilder A Y G g → QueueOptions (DynBox Y A G)
options_of b = record { capacity = b.capacity; policy = b.policy; handler = option_map closure_of b.handler; period = b.period }

-- The queuing sink wraps this sink, and has a queue and a worker as these options say.
pub record IsMadeBy {H S R A N : Type 0} {n : _} (options : QueueOptions H) (sink : S) (q : QueuingMetricSink S R A N n) : Type 0 where
  pub wrapped : wrapped_sink q ≡ sink
  pub capacity : queue_capacity q ≡ options.capacity
  pub policy : queue_policy q ≡ options.policy
  pub period : flush_period q ≡ options.period
