-- Events of DogStatsD and their lines.
use Rattle.std.specs.Prelude.{◌≡◌, ℕ, ◌+◌, Option, List, ◌++◌, codes, drop, length, map, take}
use Rattle.std.specs.Option.{option_copied, option_map, option_or}
use Rattle.cadence_events.specs.declared.event.AlertType.{AlertType}
use Rattle.cadence_events.specs.declared.event.AlertType.TheVariants.{Error, Warning, Info, Success}
use Rattle.cadence_events.specs.declared.event.Priority.{Priority}
use Rattle.cadence_events.specs.declared.event.Priority.TheVariants.{Low, Normal}
use Rattle.cadence_events.specs.declared.event.Event.{Event as EventParts}
use Rattle.cadence_events.specs.Escapes.{escaped}
use Rattle.cadence_events.specs.Fields.{field, seconds_field, tags_after}
use Rattle.cadence_events.specs.Lined.{Common}
use Rattle.cadence_text.specs.Line.{container_field, tags_field}
use Rattle.cadence_text.specs.Metric.{Tag}
use Rattle.cadence_text.specs.Record.{tag_of}
use Rattle.cadence_value.specs.Number.{decimal_text}

-- an event: the title, the text, and the optional fields
pub record Event : Type 0 where
  pub title : List ℕ
  pub text : List ℕ
  pub time : Option ℕ
  pub host : Option (List ℕ)
  pub key : Option (List ℕ)
  pub priority : Option Priority
  pub source : Option (List ℕ)
  pub alert : Option AlertType
  pub tags : List Tag
  pub container : Option (List ℕ)

-- the event that an `Event` of Rattle represents
abbrev pub event_of : EventParts → Event
event_of e = record {
  title = e.title.now;
  text = e.text.now;
  time = e.time;
  host = option_copied e.host;
  key = option_copied e.key;
  priority = e.priority;
  source = option_copied e.source;
  alert = e.alert;
  tags = map tag_of e.tags.now;
  container = option_copied e.container;
}

-- the fields that service checks have too
abbrev pub event_common : Event → Common
event_common e = record { time = e.time; host = e.host; tags = e.tags; container = e.container }

-- the event with these common fields in place of its own
abbrev pub event_sharing : Common → Event → Event
event_sharing c e = record e { time = c.time; host = c.host; tags = c.tags; container = c.container }

-- the word of a priority
abbrev pub priority_text : Priority → List ℕ
priority_text Low = codes "low"
priority_text Normal = codes "normal"

-- the word of an alert type
abbrev pub alert_text : AlertType → List ℕ
alert_text Error = codes "error"
alert_text Warning = codes "warning"
alert_text Info = codes "info"
alert_text Success = codes "success"

-- the first part of a line, made of the escaped title and the escaped text: `_e{5,4}:title|text`. The two numbers are
-- the lengths in bytes of these escaped texts.
abbrev pub event_head : List ℕ → List ℕ → List ℕ
event_head title text =
    codes "_e{" ++ (decimal_text (length title) ++ (codes "," ++ (decimal_text (length text) ++ (codes "}:"
    ++ (title ++ (codes "|" ++ text))))))

-- the fields of an event, each one that it has, with this field of tags
abbrev pub event_fields : Event → List ℕ → List ℕ
event_fields e tags =
    seconds_field e.time ++ (field (codes "|h:") e.host ++ (field (codes "|k:") e.key
    ++ (field (codes "|p:") (option_map priority_text e.priority) ++ (field (codes "|s:") e.source
    ++ (field (codes "|t:") (option_map alert_text e.alert) ++ (tags ++ container_field e.container))))))

-- the line of an event with this field of tags
unfoldable pub event_text : Event → List ℕ → List ℕ
event_text e tags = event_head (escaped e.title) (escaped e.text) ++ event_fields e tags

-- the line of an event
abbrev pub event_line : Event → List ℕ
event_line e = event_text e (tags_field e.tags)

-- the line of an event with the text of default tags, which comes before its own tags, and with this default container
-- if it has none
abbrev pub event_line_with : List ℕ → Option (List ℕ) → Event → List ℕ
event_line_with tags container e = event_text (record e { container = option_or e.container container }) (tags_after tags e.tags)

-- the event with these default tags, which come before its own, and with this default container if it has none
abbrev pub event_with : List Tag → Option (List ℕ) → Event → Event
event_with tags container e = record e { tags = tags ++ e.tags; container = option_or e.container container }

-- The two numbers of the head are the lengths in bytes of this title and of this text. A reader that takes as many
-- bytes as the first number says, skips a bar, and takes as many as the second one says, has them, whatever bytes
-- they have.
pub record IsCutByLengths (title text line : List ℕ) : Type 0 where
  pub rest : List ℕ
  pub whole : line ≡ codes "_e{" ++ (decimal_text (length title) ++ (codes "," ++ (decimal_text (length text) ++ (codes "}:" ++ rest))))
  pub front : take (length title) rest ≡ title
  pub bar : take 1 (drop (length title) rest) ≡ codes "|"
  pub back : take (length text) (drop (length title + 1) rest) ≡ text
