-- Service checks of DogStatsD and their lines.
use Rattle.std.specs.Prelude.{ℕ, Option, List, ◌++◌, codes, map}
use Rattle.std.specs.Option.{option_copied, option_map, option_or}
use Rattle.cadence_events.specs.declared.service_check.ServiceStatus.{ServiceStatus}
use Rattle.cadence_events.specs.declared.service_check.ServiceStatus.TheVariants.{Ok, Warning, Critical, Unknown}
use Rattle.cadence_events.specs.declared.service_check.ServiceCheck.{ServiceCheck as CheckParts}
use Rattle.cadence_events.specs.Escapes.{escaped_message}
use Rattle.cadence_events.specs.Fields.{field, seconds_field, tags_after}
use Rattle.cadence_events.specs.Lined.{Common}
use Rattle.cadence_text.specs.Line.{container_field, tags_field}
use Rattle.cadence_text.specs.Metric.{Tag}
use Rattle.cadence_text.specs.Record.{tag_of}

-- a service check: the name of the service, its status, and the optional fields
pub record ServiceCheck : Type 0 where
  pub name : List ℕ
  pub status : ServiceStatus
  pub time : Option ℕ
  pub host : Option (List ℕ)
  pub tags : List Tag
  pub container : Option (List ℕ)
  pub message : Option (List ℕ)

-- the service check that a `ServiceCheck` of Rattle represents
abbrev pub check_of : CheckParts → ServiceCheck
check_of c = record {
  name = c.name.now;
  status = c.status;
  time = c.time;
  host = option_copied c.host;
  tags = map tag_of c.tags.now;
  container = option_copied c.container;
  message = option_copied c.message;
}

-- the fields that events have too
abbrev pub check_common : ServiceCheck → Common
check_common c = record { time = c.time; host = c.host; tags = c.tags; container = c.container }

-- the service check with these common fields in place of its own
abbrev pub check_sharing : Common → ServiceCheck → ServiceCheck
check_sharing c check = record check { time = c.time; host = c.host; tags = c.tags; container = c.container }

-- the digit of a status
abbrev pub status_text : ServiceStatus → List ℕ
status_text Ok = codes "0"
status_text Warning = codes "1"
status_text Critical = codes "2"
status_text Unknown = codes "3"

-- the line of a service check with this field of tags: the name, the status, and then each field that it has. The
-- message is the last one.
unfoldable pub check_text : ServiceCheck → List ℕ → List ℕ
check_text c tags =
    codes "_sc|" ++ (c.name ++ (codes "|" ++ (status_text c.status ++ (seconds_field c.time ++ (field (codes "|h:") c.host
    ++ (tags ++ (container_field c.container ++ field (codes "|m:") (option_map escaped_message c.message))))))))

-- the line of a service check
abbrev pub check_line : ServiceCheck → List ℕ
check_line c = check_text c (tags_field c.tags)

-- the line of a service check with the text of default tags, which comes before its own tags, and with this default
-- container if it has none
abbrev pub check_line_with : List ℕ → Option (List ℕ) → ServiceCheck → List ℕ
check_line_with tags container c = check_text (record c { container = option_or c.container container }) (tags_after tags c.tags)

-- the service check with these default tags, which come before its own, and with this default container if it has none
abbrev pub check_with : List Tag → Option (List ℕ) → ServiceCheck → ServiceCheck
check_with tags container c = record c { tags = tags ++ c.tags; container = option_or c.container container }
