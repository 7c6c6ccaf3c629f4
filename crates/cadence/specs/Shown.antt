-- What contracts show of a client, of its builder and of the builders of metrics, events and service checks, whose fields
-- are private.
use Rattle.std.specs.Prelude.{◌≡◌, Bool, IsTrue, Result, Ok, Err, map}
use Rattle.std.specs.Option.{option_map}
use Rattle.std.specs.declared.dyn_box.DynBox.{DynBox}
use Rattle.cadence_errors.specs.declared.MetricError.{MetricError}
use Rattle.cadence_events.specs.Event.{Event, event_of}
use Rattle.cadence_events.specs.Lined.{common_of}
use Rattle.cadence_events.specs.ServiceCheck.{ServiceCheck, check_of}
use Rattle.cadence_events.specs.declared.event.Event.{Event as EventParts}
use Rattle.cadence_events.specs.declared.service_check.ServiceCheck.{ServiceCheck as CheckParts}
use Rattle.cadence_text.specs.Draft.{Draft}
use Rattle.cadence_text.specs.Metric.{Tag}
use Rattle.cadence_text.specs.Record.{tag_of}
use Rattle.cadence.specs.declared.client.builder.MetricBuilder.{MetricBuilder}
use Rattle.cadence.specs.declared.client.lined_builder.LinedBuilder.{LinedBuilder}
use Rattle.cadence.specs.declared.client.handler.BoxedErrorHandler.{BoxedErrorHandler}
use Rattle.cadence.specs.declared.client.statsd_client.StatsdClient.{StatsdClient}
use Rattle.cadence.specs.declared.client.client_builder.StatsdClientBuilder.{StatsdClientBuilder}
use Rattle.cadence.specs.Events.{Built}
use Rattle.cadence_settings.specs.Settings.{Settings, FailsFor, allows_tag, with_default_tag}

-- A builder has settings, or the first error of the calls that made them. A call changes them: an error stays. If the
-- settings allow the change, the result is the changed settings, or memory ran out. Otherwise the result is the error of
-- an invalid input.
abbrev pub Changes : Result Settings MetricError → (Settings → Bool) → (Settings → Settings) → Result Settings MetricError → Type 0
Changes (Err e) allows change new = new ≡ Err e
Changes (Ok s) allows change (Ok t) = IsTrue (allows s) × (t ≡ change s)
Changes (Ok s) allows change (Err e) = FailsFor (allows s) e

module _ {T C Z : Type 0} where
  -- the pending draft of a metric's builder: the draft of the metric so far, or an error
  abbrev pub pending_of : MetricBuilder T C Z → Result Draft MetricError
  pending_of b = b.draft

  -- the client by which a metric's builder sends
  abbrev pub backend_of : MetricBuilder T C Z → C
  backend_of b = b.client.now

module _ {L C Z : Type 0} where
  -- what the builder of an event or of a service check has so far. `own_of` says what the event or service check is.
  abbrev pub built_as : {E : Type 0} → (L → E) → LinedBuilder L C Z → Built E C
  built_as own_of b = record {
    own = own_of b.own;
    common = option_map (λ tags. record (common_of b.common) { tags = map tag_of tags.items }) b.tags;
    client = b.client.now;
  }

  -- the same, with the event or service check as it is in Rattle
  abbrev pub built : LinedBuilder L C Z → Built L C
  built b = built_as (λ own. own) b

module _ {C Z : Type 0} where
  -- what the builder of an event has so far
  abbrev pub built_event : LinedBuilder EventParts C Z → Built Event C
  built_event b = built_as event_of b

  -- what the builder of a service check has so far
  abbrev pub built_check : LinedBuilder CheckParts C Z → Built ServiceCheck C
  built_check b = built_as check_of b

module _ {Z Y : Type 0} {G : Y → Type 0} {g : _} where
  -- the boxed closure that a handler stores
  abbrev pub box_of_handler : BoxedErrorHandler Z Y G g → DynBox Y Z G
  box_of_handler h = h.call

module _ {Z S H : Type 0} where
  -- the prefix and the defaults of a client
  abbrev pub settings_of_client : StatsdClient Z S H → Settings
  settings_of_client c = c.settings

  -- the sink of a client
  abbrev pub sink_of_client : StatsdClient Z S H → S
  sink_of_client c = c.sink

  -- the error handler of a client
  abbrev pub handler_of_client : StatsdClient Z S H → H
  handler_of_client c = c.handler

  -- the settings that a client's builder has so far, or the first error of its calls
  abbrev pub settings_of_builder : StatsdClientBuilder Z S H → Result Settings MetricError
  settings_of_builder b = b.settings

  -- the sink of a client's builder
  abbrev pub sink_of_builder : StatsdClientBuilder Z S H → S
  sink_of_builder b = b.sink

  -- the error handler of a client's builder
  abbrev pub handler_of_builder : StatsdClientBuilder Z S H → H
  handler_of_builder b = b.handler

  -- The builder's settings were changed by `change`, unless they don't allow the change or memory ran out. Its sink and
  -- its handler stayed the same.
  pub record AddsDefault (allows : Settings → Bool) (change : Settings → Settings) (old new : StatsdClientBuilder Z S H) : Type 0 where
    pub settings : Changes (settings_of_builder old) allows change (settings_of_builder new)
    pub sink : sink_of_builder new ≡ sink_of_builder old
    pub handler : handler_of_builder new ≡ handler_of_builder old

  -- The builder added a default tag, or has an error.
  abbrev pub AddsDefaultTag : Tag → StatsdClientBuilder Z S H → StatsdClientBuilder Z S H → Type 0
  AddsDefaultTag tag old new = AddsDefault (λ s. allows_tag s tag) (λ s. with_default_tag s tag) old new

  -- The client has the builder's settings, sink and handler.
  pub record IsBuiltFrom (b : StatsdClientBuilder Z S H) (c : StatsdClient Z S H) : Type 0 where
    pub settings : settings_of_builder b ≡ Ok (settings_of_client c)
    pub sink : sink_of_client c ≡ sink_of_builder b
    pub handler : handler_of_client c ≡ handler_of_builder b
