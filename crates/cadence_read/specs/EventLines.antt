-- How the lines of events and of service checks are cut that this library's clients send.
use Rattle.std.specs.Prelude.{ℕ, List}
use Rattle.cadence_events.specs.Event.{Event, event_text}
use Rattle.cadence_events.specs.ServiceCheck.{ServiceCheck, check_text}
use Rattle.cadence_read.specs.Cuts.{IsEvent, IsServiceCheck}

-- The line of an event is an event, the line of a service check is a service check, each with any field of tags, and no
-- line is both.
pub record CutsEventLines : Type 0 where
  pub event : (e : Event) (tags : List ℕ) → IsEvent (event_text e tags)
  pub check : (c : ServiceCheck) (tags : List ℕ) → IsServiceCheck (check_text c tags)
  pub apart : (line : List ℕ) → IsEvent line → IsServiceCheck line → ⊥
