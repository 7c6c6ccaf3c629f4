-- The packets that are sent for words, and for the lines of a text.
use Rattle.std.specs.Prelude.{[], ◌∷◌, ◌≡◌, ℕ, ◌==◌, ◌-◌, ◌<◌, ◌≤◌, ◌⊎◌, Option, None, Some, List, ◌++◌}
use Rattle.std.specs.Prelude.{if◌then◌else◌, length, slice_index, take}
use Rattle.std.specs.List.{AllZip, filter_map, slice_split}
use Rattle.cadence_flow.specs.Frame.{stream}
use Rattle.cadence_flow.specs.Packer.{Packer, packer_state, whole_text}
use Rattle.cadence_flow.specs.Writer.{PacketHistory, Reports, TakesWhole, WriterKind}
use Rattle.cadence_words.specs.Commands.{IsLineOfCommand}
use Rattle.cadence_words.specs.Lines.{IsLineOfText}
use Rattle.cadence_words.specs.declared.defaults.Defaults.{Defaults}
use Rattle.cadence_words.specs.declared.events.Fields.{Fields}

-- the text without the carriage return at its end, if it has one
abbrev pub without_return : List ℕ → List ℕ
without_return text = if slice_index text (length text - 1) == 13 then take (length text - 1) text else text

-- The line is one of these, and not longer than a line may be.
abbrev pub IsGiven : {Z : Type 0} → Defaults Z → (List ℕ → Type 0) → List ℕ → Type 0
IsGiven d IsLine line = IsLine line × (length line ≤ d.longest)

-- There is no line, or one that is longer than a line may be.
abbrev pub HasNoLine : {Z : Type 0} → Defaults Z → (List ℕ → Type 0) → Type 0
HasNoLine d IsLine = ((line : List ℕ) → IsLine line → ⊥) ⊎ ((line : List ℕ) × IsLine line × (d.longest < length line))

-- The text, without a carriage return at its end, asks for a metric with this line. If there is no line, the text asks
-- for no metric, or for one whose line is longer than a line may be.
abbrev pub AsksFor : {Z : Type 0} → Defaults Z → List ℕ → Option (List ℕ) → Type 0
AsksFor d text (Some line) = IsGiven d (IsLineOfText d (without_return text)) line
AsksFor d text None = HasNoLine d (IsLineOfText d (without_return text))

-- the texts between the newlines of an input
abbrev pub texts_of_input : List ℕ → List (List ℕ)
texts_of_input input = slice_split (λ b. b == 10) input

-- These are the lines of the texts that ask for a metric, in order.
abbrev pub AreLinesOf : {Z : Type 0} → Defaults Z → List (List ℕ) → List (List ℕ) → Type 0
AreLinesOf d texts lines = (given : List (Option (List ℕ))) × AllZip (AsksFor d) texts given × (lines ≡ filter_map (λ o. o) given)

-- The packer took these lines. If its writer reports its packets and takes each of them whole, then the packets and the
-- held text, joined, grew by the stream of the lines.
pub record TakesLines {W : Type 0} (kind : W → WriterKind) (history : W → PacketHistory) (old new : Packer W) (lines : List (List ℕ)) : Type 0 where
  pub same_kind : kind new.writer ≡ kind old.writer
  pub same_format : new.format ≡ old.format
  pub text : Reports (kind old.writer) → TakesWhole (kind old.writer)
      → whole_text (packer_state history new) ≡ whole_text (packer_state history old) ++ stream old.format lines

-- In these records `takes` says of two states of what takes lines, and of lines, that it took these lines between them.

-- It took the lines of the texts that ask for a metric.
pub record TakesTexts {S Z : Type 0} (d : Defaults Z) (takes : S → S → List (List ℕ) → Type 0) (old new : S) (texts : List (List ℕ)) : Type 0 where
  pub lines : List (List ℕ)
  pub are : AreLinesOf d texts lines
  pub took : takes old new lines

-- It took the lines of the first texts, as far as they ask for a metric, and none of the others.
pub record TakesFirst {S Z : Type 0} (d : Defaults Z) (takes : S → S → List (List ℕ) → Type 0) (old new : S) (texts : List (List ℕ)) : Type 0 where
  pub front : List (List ℕ)
  pub rest : List (List ℕ)
  pub cut : texts ≡ front ++ rest
  pub taken : TakesTexts d takes old new front

-- It took the lines of the texts that ask for a metric, and nothing is held any more.
pub record SendsTexts {S Z : Type 0} (d : Defaults Z) (takes : S → S → List (List ℕ) → Type 0) (is_sent : S → Type 0) (old new : S)
    (texts : List (List ℕ)) : Type 0 where
  pub taken : TakesTexts d takes old new texts
  pub none_held : is_sent new

-- If no part of the words was reported as unreadable, the packer took the line of the words, and no text is held any
-- more. Otherwise the words ask for no line, or for one that is longer than a line may be, and the packer is unchanged.
abbrev pub SendsWords : {W Z X : Type 0} → Defaults Z → Fields → (W → WriterKind) → (W → PacketHistory) → Packer W → Packer W
    → List (List ℕ) → Option X → Type 0
SendsWords d fields kind history old new words None =
    (line : List ℕ) × IsGiven d (IsLineOfCommand d fields words) line × TakesLines kind history old new (line ∷ []) × (new.held ≡ [])
SendsWords d fields kind history old new words (Some why) = HasNoLine d (IsLineOfCommand d fields words) × (new ≡ old)
