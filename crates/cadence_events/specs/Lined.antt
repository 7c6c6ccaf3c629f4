-- What events and service checks have in common: the optional fields that both have, in place of which a line may have
-- others.
use Rattle.std.specs.Prelude.{ℕ, Option, List, map}
use Rattle.std.specs.Option.{option_copied, option_or}
use Rattle.cadence_events.specs.declared.lined.Common.{Common as CommonParts}
use Rattle.cadence_events.specs.Fields.{tags_after}
use Rattle.cadence_text.specs.Metric.{Tag}
use Rattle.cadence_text.specs.Record.{tag_of}

-- the fields that both have: the time, the host, the tags and the container
pub record Common : Type 0 where
  pub time : Option ℕ
  pub host : Option (List ℕ)
  pub tags : List Tag
  pub container : Option (List ℕ)

-- the fields that a `Common` of Rattle represents
abbrev pub common_of : CommonParts → Common
common_of c = record {
  time = c.time;
  host = option_copied c.host;
  tags = map tag_of c.tags.now;
  container = option_copied c.container;
}

-- the fields with this default container if they have none
abbrev pub or_container : Option (List ℕ) → Common → Common
or_container container c = record c { container = option_or c.container container }

-- the line with these common fields, whose tags come after this text of default tags. `spelled` gives the line with these
-- fields and with a field of tags.
abbrev pub line_after : (Common → List ℕ → List ℕ) → List ℕ → Common → List ℕ
line_after spelled tags c = spelled c (tags_after tags c.tags)
