-- The events and service checks that words ask for.
use Rattle.std.specs.Prelude.{◌≡◌, ◌⊎◌, ℕ, Option, None, List, [], ◌∷◌, codes}
use Rattle.std.specs.List.{AllZip}
use Rattle.std.specs.Option.{option_copied}
use Rattle.cadence_errors.specs.declared.input_error.InputError.{InputError}
use Rattle.cadence_errors.specs.declared.input_error.InputError.TheVariants.{Unusable, OutOfMemory}
use Rattle.cadence_events.specs.Cleaned.{check_as, event_as}
use Rattle.cadence_events.specs.Event.{Event, event_line, event_with}
use Rattle.cadence_events.specs.Refusals.{check_refusal, event_refusal}
use Rattle.cadence_events.specs.ServiceCheck.{ServiceCheck, check_line, check_with, status_text}
use Rattle.cadence_events.specs.declared.refusal.Unfit.{Unfit}
use Rattle.cadence_events.specs.declared.service_check.ServiceStatus.{ServiceStatus}
use Rattle.cadence_events.specs.declared.service_check.ServiceStatus.TheVariants as status
use Rattle.cadence_text.specs.Cleaned.{text_as}
use Rattle.cadence_text.specs.Metric.{Tag}
use Rattle.cadence_words.specs.Asked.{IsTagWord, IsWord}
use Rattle.cadence_words.specs.Lines.{tag_words_as}
use Rattle.cadence_words.specs.declared.defaults.Defaults.{Defaults}
use Rattle.cadence_words.specs.declared.events.Fields.{Fields}
use Rattle.cadence_words.specs.declared.word_error.Part.{Part}
use Rattle.cadence_words.specs.declared.word_error.Part.TheVariants as part

-- the name of a status
abbrev pub status_name : ServiceStatus → List ℕ
status_name status.Ok = codes "ok"
status_name status.Warning = codes "warning"
status_name status.Critical = codes "critical"
status_name status.Unknown = codes "unknown"

-- The word is the digit of the status, as `2`, or its name, as `critical`.
abbrev pub NamesStatus : List ℕ → ServiceStatus → Type 0
NamesStatus word s = (word ≡ status_text s) ⊎ (word ≡ status_name s)

-- the event with this title, this text and these tags, and with the time and the fields of the command line
abbrev pub asked_event : Option ℕ → Fields → List ℕ → List ℕ → List Tag → Event
asked_event time f title text tags = record {
  title = title;
  text = text;
  time = time;
  host = option_copied f.host;
  key = option_copied f.key;
  priority = f.priority;
  source = option_copied f.source;
  alert = f.alert;
  tags = tags;
  container = None;
}

-- the service check with this name, this status and these tags, and with the time and the fields of the command line
abbrev pub asked_check : Option ℕ → Fields → List ℕ → ServiceStatus → List Tag → ServiceCheck
asked_check time f name s tags = record {
  name = name;
  status = s;
  time = time;
  host = option_copied f.host;
  tags = tags;
  container = None;
  message = option_copied f.message;
}

-- The event, which is cleaned if the settings clean texts, can stand in a line, and this is its line with the default tags
-- and the default container.
abbrev pub IsEventLine : {Z : Type 0} → Defaults Z → Event → List ℕ → Type 0
IsEventLine d e line =
    let sent = event_as d.settings.cleaned e in
    (event_refusal sent ≡ None) × (line ≡ event_line (event_with d.settings.tags d.settings.container sent))

-- The same for a service check.
abbrev pub IsCheckLine : {Z : Type 0} → Defaults Z → ServiceCheck → List ℕ → Type 0
IsCheckLine d c line =
    let sent = check_as d.settings.cleaned c in
    (check_refusal sent ≡ None) × (line ≡ check_line (check_with d.settings.tags d.settings.container sent))

-- The words are tags, and this is the line of the event with this title, this text and these tags.
abbrev pub IsLineOfTitled : {Z : Type 0} → Defaults Z → Fields → List ℕ → List ℕ → List (List ℕ) → List ℕ → Type 0
IsLineOfTitled d f title text words line = (tags : List Tag) × AllZip IsTagWord words tags × IsEventLine d (asked_event d.time f title text tags) line

-- The first text is a name, the second one names a status, the words are tags, and this is the line of the service check
-- that they make.
abbrev pub IsLineOfNamed : {Z : Type 0} → Defaults Z → Fields → List ℕ → List ℕ → List (List ℕ) → List ℕ → Type 0
IsLineOfNamed d f name word words line =
    IsWord name × (s : ServiceStatus) × NamesStatus word s × (tags : List Tag) × AllZip IsTagWord words tags
    × IsCheckLine d (asked_check d.time f name s tags) line

-- The words ask for an event, with `event`, a title, a text and any tags, and this is its line. If the settings clean texts,
-- the tags are cleaned before they are read.
abbrev pub IsLineOfEvent : {Z : Type 0} → Defaults Z → Fields → List (List ℕ) → List ℕ → Type 0
IsLineOfEvent d f [] line = ⊥
IsLineOfEvent d f (kind ∷ []) line = ⊥
IsLineOfEvent d f (kind ∷ title ∷ []) line = ⊥
IsLineOfEvent d f (kind ∷ title ∷ text ∷ words) line =
    (kind ≡ codes "event") × IsLineOfTitled d f title text (tag_words_as d.settings.cleaned words) line

-- The words ask for a service check, with `check`, a name, a status and any tags, and this is its line. If the settings
-- clean texts, the name and the tags are cleaned before they are read.
abbrev pub IsLineOfCheck : {Z : Type 0} → Defaults Z → Fields → List (List ℕ) → List ℕ → Type 0
IsLineOfCheck d f [] line = ⊥
IsLineOfCheck d f (kind ∷ []) line = ⊥
IsLineOfCheck d f (kind ∷ name ∷ []) line = ⊥
IsLineOfCheck d f (kind ∷ name ∷ word ∷ words) line =
    (kind ≡ codes "check") × IsLineOfNamed d f (text_as d.settings.cleaned name) word (tag_words_as d.settings.cleaned words) line

-- why there is no line, as an error about words
abbrev pub word_error_of : InputError Unfit → InputError Part
word_error_of (Unusable unfit) = Unusable (part.Field unfit)
word_error_of OutOfMemory = OutOfMemory
