-- What a packer has, and what its calls do.
use Rattle.std.specs.Prelude.{◌≡◌, ℕ, ◌<◌, ◌≤◌, ◌-◌, true, false, List, [], ◌∷◌, ◌++◌, length, take, drop, ◌⊎◌, ◌↔◌, Bool, IsTrue}
use Rattle.std.specs.Prelude.{IsFalse, IsOk, IfOk, IfErr, OnOk, OnErr, Ok, Err, Vec}
use Rattle.std.specs.declared.result.Result.{Result}
use Rattle.std.specs.List.{concat}
use Rattle.std.specs.Coded.{Coded, coded×, coded_ℕ, coded_list, code_by}
use Rattle.std.proofs.Common.{refl}
use Rattle.cadence_errors.specs.declared.SinkError.{SinkError}
use Rattle.cadence_errors.specs.declared.SinkError.TheVariants.{NothingWritten}
use Rattle.cadence_flow.specs.Frame.{Format, Fits, IsNotOversize, IsOversize, PassesRoom, frame_of, held_packet}
use Rattle.cadence_flow.specs.Writer.{PacketHistory, WriterKind, Reports, TakesWhole}
use Rattle.cadence_flow.specs.Writer.{RefusedNothing, RefusedOne, Extends, Sends, SendsThen}

-- a packer: its writer, the held text, which waits to be written, and the format of a packet
pub record Packer (W : Type 0) : Type 0 where
  pub writer : W
  pub held : List ℕ
  pub format : Format

-- how the logic stores a packer: as the tuple of its fields
abbrev pub packer_code : {W : Type 0} → Coded W → Coded (Packer W)
packer_code w =
    code_by
    (_ × (List ℕ × (ℕ × List ℕ)))
    (coded× w (coded× (coded_list coded_ℕ) (coded× coded_ℕ (coded_list coded_ℕ))))
    (λ p. (p.writer, (p.held, (p.format.capacity, p.format.ending))))
    (λ p. record { writer = p.0; held = p.1.0; format = record { capacity = p.1.1.0; ending = p.1.1.1 } })
    (λ _. refl)

-- a new packer, which holds nothing
abbrev pub new_packer : {W : Type 0} → W → ℕ → List ℕ → Packer W
new_packer w capacity ending =
    record { writer = w; held = []; format = record { capacity = capacity; ending = ending } }

-- the packer with this held text
abbrev pub with_held : {W : Type 0} → Packer W → List ℕ → Packer W
with_held p held = record { writer = p.writer; held = held; format = p.format }

-- the packer with this writer
abbrev pub with_writer : {W : Type 0} → Packer W → W → Packer W
with_writer p w = record { writer = w; held = p.held; format = p.format }

-- the packer with the line and its ending behind the held text
abbrev pub with_line_held : {W : Type 0} → Packer W → List ℕ → Packer W
with_line_held p line = with_held p (p.held ++ (line ++ p.format.ending))

-- what the calls of a packer change: the history of its writer, and the held text
pub record PackerState : Type 0 where
  pub history : PacketHistory
  pub held : List ℕ

-- the state of a packer, if this is how a writer shows its history
abbrev pub packer_state : {W : Type 0} → (W → PacketHistory) → Packer W → PackerState
packer_state history p = record { history = history p.writer; held = p.held }

-- all text that a packer was given: the packets that its writer took, joined, and then the held text
abbrev pub whole_text : PackerState → List ℕ
whole_text s = concat s.history.packets ++ s.held

-- what a write with this result adds to that text: the line's frame, as far as it was accepted, or nothing after an
-- error
abbrev pub added_by : Format → List ℕ → Result ℕ SinkError → List ℕ
added_by format line (Ok n) = frame_of format line n
added_by format line (Err e) = []

-- the part of the held text that the writer took, if this rest of it is left
abbrev pub taken_of_held : List ℕ → List ℕ → List ℕ
taken_of_held held rest = take (length held - length rest) held

-- the held text, or the line if nothing is held
abbrev pub rest_or : List ℕ → List ℕ → List ℕ
rest_or [] line = line
rest_or (b ∷ bs) line = b ∷ bs

-- The rest is an end of the held text.
abbrev pub IsEndOf : List ℕ → List ℕ → Type 0
IsEndOf held rest = rest ≡ drop (length held - length rest) held

-- The writer took the text before the offered one, and then refused the offered one, once, with an error that it may
-- return.
pub record IsRefused (kind : WriterKind) (old new : PacketHistory) (before offered : List ℕ) (e : SinkError) : Type 0 where
  pub may_give : kind.may_give e ≡ true
  pub once : RefusedOne old new (length offered)
  pub sent : Reports kind → Sends old new before

-- The writer took some of the held text, and then 0 bytes of the rest.
pub record IsNotWritten (kind : WriterKind) (old new : PacketHistory) (before : List ℕ) (e : SinkError) : Type 0 where
  pub error : e ≡ NothingWritten
  pub none_refused : RefusedNothing old new
  pub not_whole : kind.takes_whole ≡ false
  pub sent : Reports kind → SendsThen old new before []

-- Why a call failed: the writer refused the offered text, or it took 0 bytes of held text.
abbrev pub HasCause : WriterKind → PacketHistory → PacketHistory → List ℕ → List ℕ → SinkError → Type 0
HasCause kind old new before offered e = IsRefused kind old new before offered e ⊎ IsNotWritten kind old new before e

-- What a flush does, by the state of the packer before and after it.
pub record Flushes {A : Type 0} (kind : WriterKind) (old new : PackerState) (result : Result A SinkError) : Type 0 where
  -- after `Ok` nothing is held; after an error an end of the held text is left, which isn't empty
  pub empties : OnOk result (new.held ≡ [])
  pub keeps_end : OnErr result ((0 < length new.held) × IsEndOf old.held new.held)
  -- if nothing is held, nothing is written
  pub idle : old.held ≡ [] → IsOk result × (new.history ≡ old.history)
  -- after `Ok` nothing was refused, and an error has a cause
  pub none_refused : OnOk result (RefusedNothing old.history new.history)
  pub cause : IfErr result (HasCause kind old.history new.history (taken_of_held old.held new.held) new.held)
  -- no byte is lost, added or moved, and no packet is empty
  pub text : Reports kind → whole_text new ≡ whole_text old
  pub extends : Reports kind → Extends old.history new.history
  pub sent : Reports kind → OnOk result (Sends old.history new.history old.held)
  -- a writer that takes whole gets the held text as one packet, or refuses it, and then nothing has changed
  pub one_packet : Reports kind → TakesWhole kind
      → OnOk result (new.history.packets ≡ old.history.packets ++ held_packet old.held)
  pub unchanged : TakesWhole kind
      → OnErr result ((new.held ≡ old.held) × (new.history.packets ≡ old.history.packets))

-- What a write returns: the length of the line, or how many first bytes of an oversize line the writer took.
pub record ReturnsCount (kind : WriterKind) (format : Format) (line : List ℕ) (result : Result ℕ SinkError) : Type 0 where
  pub within : IfOk result (λ n. n ≤ length line)
  pub not_oversize : IsNotOversize format line → IfOk result (λ n. n ≡ length line)
  pub takes_whole : TakesWhole kind → IfOk result (λ n. n ≡ length line)

-- The line is held with its ending, behind the held text. Nothing is written.
pub record HoldsBehind (format : Format) (old new : PackerState) (line : List ℕ) (result : Result ℕ SinkError) : Type 0 where
  pub count : result ≡ Ok (length line)
  pub history : new.history ≡ old.history
  pub held : new.held ≡ old.held ++ (line ++ format.ending)

-- The held text is sent, and then the line is held with its ending. A writer that takes whole gets one packet.
pub record SendsHeld (kind : WriterKind) (format : Format) (old new : PackerState) (line : List ℕ) : Type 0 where
  pub held : new.held ≡ line ++ format.ending
  pub sent : Reports kind → Sends old.history new.history old.held
  pub one_packet : Reports kind → TakesWhole kind
      → new.history.packets ≡ old.history.packets ++ held_packet old.held

-- The held text is sent, and then the line alone, of which the writer takes the first n bytes. Nothing is held. A writer
-- that takes whole gets the held text as one packet, and the line as another.
pub record SendsAlone (kind : WriterKind) (old new : PackerState) (line : List ℕ) (n : ℕ) : Type 0 where
  pub held : new.held ≡ []
  pub sent : Reports kind → SendsThen old.history new.history old.held (take n line)
  pub two_packets : Reports kind → TakesWhole kind
      → new.history.packets ≡ (old.history.packets ++ held_packet old.held) ++ line ∷ []

-- The write failed, and nothing of the line is held. An end of the held text is left; only an oversize line is refused
-- with nothing held. If the writer takes whole, the held text was sent or it was refused.
pub record FailsToWrite (kind : WriterKind) (format : Format) (old new : PackerState) (line : List ℕ) (e : SinkError) : Type 0 where
  pub keeps_end : IsEndOf old.held new.held
  pub keeps_some : IsNotOversize format line → 0 < length new.held
  pub cause : HasCause kind old.history new.history (taken_of_held old.held new.held) (rest_or new.held line) e
  pub sent : Reports kind → TakesWhole kind
      → new.held ≡ [] → new.history.packets ≡ old.history.packets ++ held_packet old.held
  pub refused : Reports kind → TakesWhole kind
      → 0 < length new.held → (new.held ≡ old.held) × (new.history.packets ≡ old.history.packets)

-- What writing a line does, by the state of the packer before and after it. A line that fits is held. If it doesn't fit,
-- the held text goes first: the call flushes, and then holds the line. An oversize line goes out alone: the call
-- flushes, and then offers the line once, without its ending.
pub record Writes (kind : WriterKind) (format : Format) (old new : PackerState) (line : List ℕ) (result : Result ℕ SinkError) : Type 0 where
  pub count : ReturnsCount kind format line result
  -- the three cases of a line, and an error
  pub fits : Fits format old.held line → HoldsBehind format old new line result
  pub goes_first : PassesRoom format old.held line → IsNotOversize format line → OnOk result (SendsHeld kind format old new line)
  pub alone : IsOversize format line → IfOk result (SendsAlone kind old new line)
  pub fails : IfErr result (FailsToWrite kind format old new line)
  -- after `Ok` nothing was refused
  pub none_refused : OnOk result (RefusedNothing old.history new.history)
  -- the text grows by the line's frame, as far as it was accepted, or by nothing after an error
  pub text : Reports kind → whole_text new ≡ whole_text old ++ added_by format line result
  pub extends : Reports kind → Extends old.history new.history

-- Making a packer returns one that holds nothing, or gives the writer back.
pub record MakesPacker {W : Type 0} (writer : W) (capacity : ℕ) (ending : List ℕ) (result : Result (Packer W) W) : Type 0 where
  pub made : IfOk result (λ p. p ≡ new_packer writer capacity ending)
  pub returned : IfErr result (λ w. w ≡ writer)

-- How a packer writes a line, for writers of this kind and history.
pub record WritesLine {W : Type 0} (kind : W → WriterKind) (history : W → PacketHistory) (old new : Packer W) (line : List ℕ)
    (result : Result ℕ SinkError) : Type 0 where
  pub same_kind : kind new.writer ≡ kind old.writer
  pub same_format : new.format ≡ old.format
  -- a line that fits is held, and nothing else changes
  pub only_held : Fits old.format old.held line → new ≡ with_line_held old line
  pub writes : Writes (kind old.writer) old.format (packer_state history old) (packer_state history new) line result

-- How a packer holds a line: it returns whether the line fits, and holds a line that does.
pub record HoldsLine {W : Type 0} (old new : Packer W) (line : List ℕ) (result : Bool) : Type 0 where
  pub exact : IsTrue result ↔ Fits old.format old.held line
  pub held : IsTrue result → new ≡ with_line_held old line
  pub unchanged : IsFalse result → new ≡ old

-- How a packer flushes, for writers of this kind and history.
pub record FlushesHeld {W : Type 0} {A : Type 0} (kind : W → WriterKind) (history : W → PacketHistory) (old new : Packer W)
    (result : Result A SinkError) : Type 0 where
  pub same_kind : kind new.writer ≡ kind old.writer
  pub same_format : new.format ≡ old.format
  -- if nothing is held, nothing changes
  pub untouched : old.held ≡ [] → new ≡ old
  pub flushes : Flushes (kind old.writer) (packer_state history old) (packer_state history new) result

-- Replacing the writer returns the old writer and the held text; or it gives the new writer back, and nothing changed.
pub record ReplacesWriter {W Z : Type 0} (old new : Packer W) (writer : W) (result : Result (W × Vec ℕ Z) W) : Type 0 where
  pub old_writer : IfOk result (λ p. p.0 ≡ old.writer)
  pub old_text : IfOk result (λ p. p.1.items ≡ old.held)
  pub renewed : OnOk result (new ≡ with_held (with_writer old writer) [])
  pub returned : IfErr result (λ w. w ≡ writer)
  pub unchanged : OnErr result (new ≡ old)
