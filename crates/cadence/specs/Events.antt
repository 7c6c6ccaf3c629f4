-- The events and service checks that a client sends, and what the calls that send them may return.
use Rattle.std.specs.Prelude.{◌≡◌, ⊤, ℕ, Bool, IfErr, IsTrue, Option, None, Some, IfNone, IfSome, List, [], ◌∷◌, ◌++◌, Result, Ok, Err}
use Rattle.std.specs.Option.{option_map}
use Rattle.cadence_errors.specs.declared.MetricError.{MetricError}
use Rattle.cadence_errors.specs.Errors.{IsDescribed, IsInvalid, out_of_memory}
use Rattle.cadence_errors.specs.declared.ErrorKind.TheVariants.{InvalidInput}
use Rattle.cadence_events.specs.declared.refusal.Unfit.{Unfit}
use Rattle.cadence_events.specs.declared.service_check.ServiceStatus.{ServiceStatus}
use Rattle.cadence_events.specs.Cleaned.{common_as}
use Rattle.cadence_events.specs.Event.{Event}
use Rattle.cadence_events.specs.Lined.{Common, or_container}
use Rattle.cadence_events.specs.Refusals.{unfit_text}
use Rattle.cadence_events.specs.ServiceCheck.{ServiceCheck}
use Rattle.cadence_settings.specs.Settings.{Settings}
use Rattle.cadence_text.specs.Line.{tags_field}
use Rattle.cadence_text.specs.Metric.{Tag}
use Rattle.cadence.specs.Sending.{SinkResults, SendsLine}

-- the event of a call without options
abbrev pub plain_event : List ℕ → List ℕ → Event
plain_event title text = record {
  title = title;
  text = text;
  time = None;
  host = None;
  key = None;
  priority = None;
  source = None;
  alert = None;
  tags = [];
  container = None;
}

-- the service check of a call without options
abbrev pub plain_check : List ℕ → ServiceStatus → ServiceCheck
plain_check name status = record {
  name = name;
  status = status;
  time = None;
  host = None;
  tags = [];
  container = None;
  message = None;
}

-- the common fields with one more tag, at the end
abbrev pub with_tag : Tag → Common → Common
with_tag tag c = record c { tags = c.tags ++ tag ∷ [] }

-- What a builder has so far: the event or service check itself, the common fields that its line has in place of its
-- own, or none if memory ran out for a tag, and the client.
pub record Built (E C : Type 0) : Type 0 where
  pub own : E
  pub common : Option Common
  pub client : C

module _ {E C : Type 0} where
  -- what a builder has, with the event or service check itself changed so
  abbrev pub with_own : (E → E) → Built E C → Built E C
  with_own change b = record b { own = change b.own }

  -- what a builder has, with the common fields changed so, if there are any
  abbrev pub with_common : (Common → Common) → Built E C → Built E C
  with_common change b = record b { common = option_map change b.common }

  -- A builder begins with this event or service check, without common fields, and sends by this client. Or memory ran
  -- out.
  pub record IsBegun (own : E) (client : C) (b : Built E C) : Type 0 where
    pub begins : b.own ≡ own
    pub bare : IfSome b.common (λ c. c ≡ record { time = None; host = None; tags = []; container = None })
    pub sends_by : b.client ≡ client

  -- The builder has one more tag, at the end. Or memory ran out, now or before.
  pub record AddsTag (tag : Tag) (old new : Built E C) : Type 0 where
    pub own : new.own ≡ old.own
    pub common : IfSome new.common (λ c. option_map (with_tag tag) old.common ≡ Some c)
    pub client : new.client ≡ old.client

-- A call sent this line, if there is no cause to refuse it: it returned what the sink may return for the line, or memory
-- ran out. If there is a cause, the error says it.
abbrev pub SendsFit : {U : Type 0} → SinkResults → Option Unfit → List ℕ → Result U MetricError → Type 0
SendsFit may None line r = SendsLine may (λ _ _. ⊤) line r
SendsFit may (Some why) line (Ok u) = ⊥
SendsFit may (Some why) line (Err e) = IsDescribed InvalidInput (unfit_text why) e

-- A call sent what a builder has, or refused it. The line has the default tags of the client and then the builder's own,
-- and the default container of the client if the builder has none. Only the texts of the builder are tested. If the client
-- cleans texts, those of the builder are cleaned, and none is refused. If there are no common fields, because memory ran
-- out before, the result says so.
pub record SendsBuilt {E C U : Type 0} (settings : C → Settings) (may : C → SinkResults) (refused : Bool → E → Common → Option Unfit)
    (spelled : Bool → E → Common → List ℕ → List ℕ) (b : Built E C) (result : Result U MetricError) : Type 0 where
  pub sent : IfSome b.common (λ c. let s = settings b.client in
      let own = common_as s.cleaned c in
      SendsFit (may b.client) (refused s.cleaned b.own own) (spelled s.cleaned b.own (or_container s.container own) (tags_field (s.tags ++ own.tags))) result)
  pub fit : IsTrue (settings b.client).cleaned → IfErr result (λ e. IsInvalid e → ⊥)
  pub failed : IfNone b.common (result ≡ Err out_of_memory)
