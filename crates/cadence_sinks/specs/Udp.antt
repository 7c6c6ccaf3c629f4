-- What contracts show of UDP sinks and of their builders, whose fields are private.
use Rattle.std.specs.Prelude.{ℕ, Bool, Option, None}
use Rattle.std.specs.Option.{option_map}
use Rattle.std.specs.declared.dyn_box.DynBox.{DynBox}
use Rattle.std.specs.declared.alloc.Global.{Global}
use Rattle.std.specs.declared.time.Duration.{Duration}
use Rattle.cadence_flow.specs.Handler.{closure_of}
use Rattle.cadence_resolve.specs.Lookups.{KeepsAddress, is_periodic}
use Rattle.cadence_resolve.specs.declared.target.Target.{Target}
use Rattle.cadence_sinks.specs.declared.udp.BufferedUdpMetricSinkBuilder.{BufferedUdpMetricSinkBuilder}
use Rattle.cadence_sinks.specs.declared.udp.UdpMetricSinkBuilder.{UdpMetricSinkBuilder}
use Rattle.cadence_sinks.specs.declared.udp.UdpMetricSink.{UdpMetricSink}

-- whether a thread looks the sink's target up again after each period
abbrev pub looks_up_again : {R A : Type 0} → UdpMetricSink R A → Bool
looks_up_again s = is_periodic s.socket.socket.resolver

-- A sink whose target is looked up once sends to the target's address. (This says nothing of a sink with a period.)
abbrev pub SendsTo : {R A B : Type 0} → UdpMetricSink R A → Target B → Type 0
SendsTo s target = KeepsAddress s.socket.socket.resolver target

-- The options of a UDP sink.
pub record UdpOptions (H : Type 0) : Type 0 where
  -- the capacity of the buffer in bytes, if it was set; none for a sink that sends each line alone
  pub capacity : Option ℕ
  -- the time between two lookups of the target, or none if it is looked up once
  pub period : Option Duration
  -- the closure that receives the errors of lookups, if there is one
  pub handler : Option H

-- the options of a builder that has no setting
abbrev pub no_options : {H : Type 0} → UdpOptions H
no_options = record { capacity = None; period = None; handler = None }

module _ {Y : Type 0} {G : Y → Type 0} {g : _} where
  -- the options that a builder has
  abbrev pub options_of : UdpMetricSinkBuilder Y G g → UdpOptions (DynBox Y Global G)
  options_of b = record { capacity = None; period = b.period; handler = option_map closure_of b.handler }

  abbrev pub buffered_options : BufferedUdpMetricSinkBuilder Y G g → UdpOptions (DynBox Y Global G)
  buffered_options b = record (options_of b.lookups) { capacity = b.capacity }
