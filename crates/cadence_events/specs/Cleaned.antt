-- Cleaned events and service checks: each separator for which a text would be refused is an underscore instead. Titles,
-- texts and times stay, and so does a message but for its bars.
use Rattle.std.specs.Prelude.{ℕ, ◌==◌, Bool, true, if◌then◌else◌, List, Option, map}
use Rattle.std.specs.Option.{option_map}
use Rattle.cadence_text.specs.Cleaned.{container_as as any_as, tag_as, text_as}
use Rattle.cadence_events.specs.Event.{Event}
use Rattle.cadence_events.specs.Lined.{Common, or_container}
use Rattle.cadence_events.specs.ServiceCheck.{ServiceCheck}

-- the byte, or an underscore (95) in place of a bar (124)
abbrev pub barless_byte : ℕ → ℕ
barless_byte byte = if byte == 124 then 95 else byte

-- the text with an underscore in place of each bar
unfoldable pub barless : List ℕ → List ℕ
barless text = map barless_byte text

-- the message as it is, or the one without bars (`true`)
abbrev pub message_as : Bool → List ℕ → List ℕ
message_as is_cleaned message = if is_cleaned then barless message else message

-- the fields that both have as they are, or the cleaned ones (`true`)
abbrev pub common_as : Bool → Common → Common
common_as is_cleaned c = record c {
  host = any_as is_cleaned c.host;
  tags = map (tag_as is_cleaned) c.tags;
  container = any_as is_cleaned c.container;
}

-- the fields that both have in a line: as they are or cleaned, with this default container if they have none
abbrev pub sent_common : Bool → Option (List ℕ) → Common → Common
sent_common is_cleaned container c = or_container container (common_as is_cleaned c)

-- the event as it is, or the cleaned one (`true`)
abbrev pub event_as : Bool → Event → Event
event_as is_cleaned e = record e {
  host = any_as is_cleaned e.host;
  key = any_as is_cleaned e.key;
  source = any_as is_cleaned e.source;
  tags = map (tag_as is_cleaned) e.tags;
  container = any_as is_cleaned e.container;
}

-- the service check as it is, or the cleaned one (`true`)
abbrev pub check_as : Bool → ServiceCheck → ServiceCheck
check_as is_cleaned c = record c {
  name = text_as is_cleaned c.name;
  host = any_as is_cleaned c.host;
  tags = map (tag_as is_cleaned) c.tags;
  container = any_as is_cleaned c.container;
  message = option_map (message_as is_cleaned) c.message;
}

-- the cleaned event
abbrev pub cleaned_event : Event → Event
cleaned_event e = event_as true e

-- the cleaned service check
abbrev pub cleaned_check : ServiceCheck → ServiceCheck
cleaned_check c = check_as true c
