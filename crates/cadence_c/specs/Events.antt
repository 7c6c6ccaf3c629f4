-- Events and service checks of C: what the structs mean, and what a call that keeps their line returns and does.
use Rattle.std.specs.Prelude.{◌≡◌, ◌⊎◌, All, ℕ, ◌==◌, ◌&&◌, Bool, not, if◌then◌else◌, List, [], ◌∷◌, length, map, Option, Some, None, Result, String, string_bytes, IfOk}
use Rattle.std.specs.Str.{IsUtf8}
use Rattle.std.specs.declared.alloc.Global.{Global}
use Rattle.cadence_events.specs.Cleaned.{check_as, event_as}
use Rattle.cadence_events.specs.Event.{Event, event_line, event_with}
use Rattle.cadence_events.specs.Refusals.{check_refusal, event_refusal}
use Rattle.cadence_events.specs.ServiceCheck.{ServiceCheck, check_line, check_with}
use Rattle.cadence_events.specs.declared.event.AlertType.{AlertType}
use Rattle.cadence_events.specs.declared.event.AlertType.TheVariants as alert
use Rattle.cadence_events.specs.declared.event.Priority.{Priority}
use Rattle.cadence_events.specs.declared.event.Priority.TheVariants as priority
use Rattle.cadence_events.specs.declared.refusal.Unfit.{Unfit}
use Rattle.cadence_events.specs.declared.service_check.ServiceStatus.{ServiceStatus}
use Rattle.cadence_events.specs.declared.service_check.ServiceStatus.TheVariants as service
use Rattle.cadence_settings.specs.Settings.{Settings}
use Rattle.cadence_host.specs.Calls.{IsUtf8Tag, c_tag}
use Rattle.cadence_host.specs.ClientState.{KeepsLine, LacksRoomForLine}
use Rattle.cadence_c.specs.Handle.{IsOpenAnd, OnOpen}
use Rattle.cadence_c.specs.Results.{UnchangedUnlessOk}
use Rattle.cadence_host.specs.Status.{CADENCE_FULL, CADENCE_INVALID, CADENCE_NOT_UTF8, CADENCE_NO_CLIENT, CADENCE_NO_MEMORY, CADENCE_OK}
use Rattle.cadence_host.specs.Status.{IsOkOr, code_of_unfit, status}
use Rattle.cadence_host.specs.Texts.{AreTextsOf}
use Rattle.cadence_c.specs.declared.events.CCheck.{CCheck}
use Rattle.cadence_c.specs.declared.events.CEvent.{CEvent}
use Rattle.cadence_c.specs.declared.handle.Handle.{Handle}
use Rattle.cadence_host.specs.declared.settings.CSettings.{CSettings}
use Rattle.cadence_host.specs.declared.status.StatusError.{StatusError}

-- the text, or none if it is empty
abbrev pub any_text : List ℕ → Option (List ℕ)
any_text text = if length text == 0 then None else Some text

-- the priority that has this number in C: 0 means that there is none
abbrev pub priority_named : ℕ → Option (Option Priority)
priority_named n =
    if n == 0 then Some None else if n == 1 then Some (Some priority.Low)
    else if n == 2 then Some (Some priority.Normal) else None

-- the alert type that has this number in C: 0 means that there is none
abbrev pub alert_named : ℕ → Option (Option AlertType)
alert_named n =
    if n == 0 then Some None else if n == 1 then Some (Some alert.Error) else if n == 2 then Some (Some alert.Warning)
    else if n == 3 then Some (Some alert.Info) else if n == 4 then Some (Some alert.Success) else None

-- the status of a service that has this number in C
abbrev pub service_status_named : ℕ → Option ServiceStatus
service_status_named n =
    if n == 0 then Some service.Ok else if n == 1 then Some service.Warning else if n == 2 then Some service.Critical
    else if n == 3 then Some service.Unknown else None

-- The struct means this event.
pub record IsEventOf (c : CEvent) (e : Event) : Type 0 where
  pub priority : priority_named c.priority ≡ Some e.priority
  pub alert : alert_named c.alert ≡ Some e.alert
  pub rest : e ≡ record {
    title = c.title.now;
    text = c.text.now;
    time = if c.timed then Some c.time else None;
    host = any_text c.host.now;
    key = any_text c.key.now;
    priority = e.priority;
    source = any_text c.source.now;
    alert = e.alert;
    tags = map c_tag c.tags.now;
    container = any_text c.container.now;
  }

-- The struct means this service check.
pub record IsCheckOf (c : CCheck) (check : ServiceCheck) : Type 0 where
  pub status : service_status_named c.status ≡ Some check.status
  pub rest : check ≡ record {
    name = c.name.now;
    status = check.status;
    time = if c.timed then Some c.time else None;
    host = any_text c.host.now;
    tags = map c_tag c.tags.now;
    container = any_text c.container.now;
    message = any_text c.message.now;
  }

-- The texts of the event are UTF-8.
pub record IsUtf8Event (c : CEvent) : Type 0 where
  pub title : IsUtf8 c.title.now
  pub text : IsUtf8 c.text.now
  pub host : IsUtf8 c.host.now
  pub key : IsUtf8 c.key.now
  pub source : IsUtf8 c.source.now
  pub container : IsUtf8 c.container.now
  pub tags : All IsUtf8Tag c.tags.now

-- The texts of the service check are UTF-8.
pub record IsUtf8Check (c : CCheck) : Type 0 where
  pub name : IsUtf8 c.name.now
  pub host : IsUtf8 c.host.now
  pub message : IsUtf8 c.message.now
  pub container : IsUtf8 c.container.now
  pub tags : All IsUtf8Tag c.tags.now

-- No priority or no alert type has the number of the event.
abbrev pub IsInvalidEvent : CEvent → Type 0
IsInvalidEvent c = (priority_named c.priority ≡ None) ⊎ (alert_named c.alert ≡ None)

-- No status has the number of the service check.
abbrev pub IsInvalidCheck : CCheck → Type 0
IsInvalidCheck c = service_status_named c.status ≡ None

-- whether settings clean the texts of calls: strict ones refuse them instead
abbrev pub cleans_texts : CSettings → Bool
cleans_texts c = c.cleaned && not c.strict

-- For all settings that have these texts, this is the line of the event with their default tags and their default
-- container. It is the line of the cleaned event if the settings clean texts.
abbrev pub IsLineOfEvent : CSettings → CEvent → List ℕ → Type 0
IsLineOfEvent c event line =
    (e : Event) × IsEventOf event e × ((s : Settings) → AreTextsOf c s → line ≡ event_line (event_with s.tags s.container (event_as (cleans_texts c) e)))

-- The same for a service check.
abbrev pub IsLineOfCheck : CSettings → CCheck → List ℕ → Type 0
IsLineOfCheck c check line =
    (e : ServiceCheck) × IsCheckOf check e × ((s : Settings) → AreTextsOf c s → line ≡ check_line (check_with s.tags s.container (check_as (cleans_texts c) e)))

-- If a text is given, it is the first one that can't stand in the line of the event, which is cleaned if the settings clean
-- texts. If none is given, all of them can. The texts of the settings are not tested.
abbrev pub IsRefusalOfEvent : CSettings → CEvent → Option Unfit → Type 0
IsRefusalOfEvent c event why = (e : Event) × IsEventOf event e × (event_refusal (event_as (cleans_texts c) e) ≡ why)

-- The same for a service check.
abbrev pub IsRefusalOfCheck : CSettings → CCheck → Option Unfit → Type 0
IsRefusalOfCheck c check why = (e : ServiceCheck) × IsCheckOf check e × (check_refusal (check_as (cleans_texts c) e) ≡ why)

-- The status names the first text that can't stand in the line.
abbrev pub IsUnfit : ℕ → (Option Unfit → Type 0) → Type 0
IsUnfit s IsRefusal = (why : Unfit) × (s ≡ code_of_unfit why) × IsRefusal (Some why)

-- What the status of a call that makes a line says of its texts. `IsRefusal` says which text is the first that can't stand
-- in the line, if there is such a text. `texts` says that all texts are UTF-8, and `wrong` that a number is invalid.
pub record TestsEvent (s : ℕ) (IsRefusal : Option Unfit → Type 0) (texts wrong : Type 0) : Type 0 where
  pub allowed : (s ≡ CADENCE_OK) ⊎ (s ≡ CADENCE_FULL) → IsRefusal None
  pub text : s ≡ CADENCE_NOT_UTF8 → texts → ⊥
  pub invalid : s ≡ CADENCE_INVALID → wrong

-- What an attempt to make a line returns. `IsLine` says of a line that it is the one that the call means.
pub record MakesEvent (result : Result (String Global) StatusError) (IsLine : List ℕ → Type 0) (IsRefusal : Option Unfit → Type 0)
    (texts wrong : Type 0) : Type 0 where
  pub line : IfOk result (λ line. IsLine (string_bytes line))
  pub tests : TestsEvent (status result) IsRefusal texts wrong
  pub statuses : IsUnfit (status result) IsRefusal ⊎ IsOkOr (CADENCE_NO_MEMORY ∷ CADENCE_INVALID ∷ CADENCE_NOT_UTF8 ∷ []) (status result)

-- What a call that makes and keeps a line returns and does.
pub record KeepsEvent (s : ℕ) (IsLine : List ℕ → Type 0) (IsRefusal : Option Unfit → Type 0) (texts wrong : Type 0)
    (old new : Handle) : Type 0 where
  pub kept : s ≡ CADENCE_OK → (line : List ℕ) × IsLine line × OnOpen (λ a b. KeepsLine a line b) old new
  pub refused : UnchangedUnlessOk s old new
  pub full : s ≡ CADENCE_FULL → (line : List ℕ) × IsLine line × IsOpenAnd old (λ a. LacksRoomForLine a line)
  pub tests : TestsEvent s IsRefusal texts wrong
  pub statuses : IsUnfit s IsRefusal ⊎ IsOkOr (CADENCE_NO_CLIENT ∷ CADENCE_NO_MEMORY ∷ CADENCE_FULL ∷ CADENCE_INVALID ∷ CADENCE_NOT_UTF8 ∷ []) s
