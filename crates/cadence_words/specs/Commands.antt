-- What the words of a command line ask for.
use Rattle.std.specs.Prelude.{◌≡◌, ◌⊎◌, ℕ, List, [], ◌∷◌, codes}
use Rattle.cadence_words.specs.Events.{IsLineOfCheck, IsLineOfEvent}
use Rattle.cadence_words.specs.Lines.{IsLineOfWords}
use Rattle.cadence_words.specs.declared.command.Subject.{Subject}
use Rattle.cadence_words.specs.declared.command.Subject.TheVariants.{Metric, Event, ServiceCheck}
use Rattle.cadence_words.specs.declared.defaults.Defaults.{Defaults}
use Rattle.cadence_words.specs.declared.events.Fields.{Fields}

-- the first word, or no byte if there are no words
abbrev pub first_word : List (List ℕ) → List ℕ
first_word [] = []
first_word (word ∷ words) = word

-- Words that begin with this one ask for this.
abbrev pub IsSubject : List ℕ → Subject → Type 0
IsSubject word Event = word ≡ codes "event"
IsSubject word ServiceCheck = word ≡ codes "check"
IsSubject word Metric = (word ≡ codes "event" → ⊥) × (word ≡ codes "check" → ⊥)

-- The words ask for an event, a service check or a metric, and this is its line.
abbrev pub IsLineOfCommand : {Z : Type 0} → Defaults Z → Fields → List (List ℕ) → List ℕ → Type 0
IsLineOfCommand d f words line = IsLineOfEvent d f words line ⊎ (IsLineOfCheck d f words line ⊎ IsLineOfWords d words line)
