-- Which texts of an event or of a service check are refused, and what a call returns if one of them is.
use Rattle.std.specs.Prelude.{◌≡◌, ℕ, ◌==◌, Bool, true, not, if◌then◌else◌, Option, None, Some, List, [], ◌∷◌, Result, Ok, Err, String}
use Rattle.std.specs.Prelude.{codes, string_bytes}
use Rattle.std.specs.List.{list_all, list_any}
use Rattle.cadence_errors.specs.declared.input_error.InputError.{InputError}
use Rattle.cadence_errors.specs.declared.input_error.InputError.TheVariants.{Unusable, OutOfMemory}
use Rattle.cadence_events.specs.declared.refusal.Unfit.{Unfit}
use Rattle.cadence_events.specs.declared.refusal.Unfit.TheVariants as unfit
use Rattle.cadence_events.specs.Event.{Event}
use Rattle.cadence_events.specs.ServiceCheck.{ServiceCheck}
use Rattle.cadence_text.specs.FreeTexts.{is_free_if_any, is_clear_tag, is_free_text}

-- the cause of the first test that failed
abbrev pub first_failed : List (Bool × Unfit) → Option Unfit
first_failed [] = None
first_failed (test ∷ tests) = if test.0 then first_failed tests else Some test.1

-- whether a message has no bar (124), if there is a message
abbrev pub has_no_bar : Option (List ℕ) → Bool
has_no_bar None = true
has_no_bar (Some text) = not (list_any (λ byte. byte == 124) text)

-- why an event has no line, if it has none: the first text with a separator, or the tags if one is not clear. Its title
-- and its text may have any byte.
abbrev pub event_refusal : Event → Option Unfit
event_refusal e =
    first_failed ((is_free_if_any e.host, unfit.Host) ∷ (is_free_if_any e.key, unfit.AggregationKey) ∷ (is_free_if_any e.source, unfit.SourceType)
    ∷ (list_all is_clear_tag e.tags, unfit.Tags) ∷ (is_free_if_any e.container, unfit.Container) ∷ [])

-- why a service check has no line, if it has none: the first text with a separator, the tags if one is not clear, or a
-- message with a bar. A message may have any other byte.
abbrev pub check_refusal : ServiceCheck → Option Unfit
check_refusal c =
    first_failed ((is_free_text c.name, unfit.Name) ∷ (is_free_if_any c.host, unfit.Host) ∷ (list_all is_clear_tag c.tags, unfit.Tags)
    ∷ (is_free_if_any c.container, unfit.Container) ∷ (has_no_bar c.message, unfit.Message) ∷ [])

-- what an error says if this text is refused
abbrev pub unfit_text : Unfit → List ℕ
unfit_text unfit.Name = codes "separator in the name of a service check"
unfit_text unfit.Host = codes "separator in the host"
unfit_text unfit.AggregationKey = codes "separator in the aggregation key"
unfit_text unfit.SourceType = codes "separator in the source type"
unfit_text unfit.Tags = codes "separator in a tag"
unfit_text unfit.Container = codes "separator in the container"
unfit_text unfit.Message = codes "bar in the message of a service check"

-- A call that makes a line returned this line, or memory ran out. If there is a cause to refuse the line, it returned
-- this cause.
abbrev pub MakesLine : {Z : Type 0} → Option Unfit → List ℕ → Result (String Z) (InputError Unfit) → Type 0
MakesLine None line (Ok text) = string_bytes text ≡ line
MakesLine None line (Err e) = e ≡ OutOfMemory
MakesLine (Some why) line (Ok text) = ⊥
MakesLine (Some why) line (Err e) = e ≡ Unusable why
