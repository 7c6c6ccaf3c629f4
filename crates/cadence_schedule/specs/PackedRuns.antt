-- What writes and flushes do to the packer of a run and to its cut.
use Rattle.std.specs.Prelude.{◌≡◌, ◌⊎◌, ℕ, ◌+◌, ◌-◌, ◌≤◌, List, Err, vec_len, vec_capacity}
use Rattle.cadence_errors.specs.declared.SinkError.TheVariants.{OutOfMemory}
use Rattle.cadence_flow.specs.Frame.{Format}
use Rattle.cadence_flow.specs.Packer.{Packer, PackerState, Flushes, Writes}
use Rattle.cadence_flow.specs.Writer.{PacketHistory, WriterKind}
use Rattle.cadence_schedule.specs.Cut.{CountsLine}
use Rattle.cadence_stage.specs.Call.{Call, Flush, Line}
use Rattle.cadence_aggregate.specs.Led.{AllLead}
use Rattle.cadence_schedule.specs.declared.packing.Packing.{Packing}

-- the state of the packer of a run
pub record PackedState : Type 0 where
  -- how many lines each packet has, and then the held text
  pub cut : List ℕ
  -- the packets that the writer took, and what it refused
  pub history : PacketHistory
  -- the text that the packer holds
  pub held : List ℕ

-- the packer in it
abbrev pub packer_in_state : PackedState → PackerState
packer_in_state s = record { history = s.history; held = s.held }

-- a packer and its cut, without how much room the cut has
pub record PackingView (P : Type 0) : Type 0 where
  pub packer : Packer P
  pub cut : List ℕ

abbrev pub view_of : {P A : Type 0} → Packing P A → PackingView P
view_of p = record { packer = p.packer; cut = p.cut.items }

-- the state of a packer with its cut, if this is how a writer shows its history
abbrev pub packed_state : {P : Type 0} → (P → PacketHistory) → PackingView P → PackedState
packed_state history p = record { cut = p.cut; history = history p.packer.writer; held = p.packer.held }

-- by the writer's kind, and the packer's capacity and ending
module _ (kind : WriterKind) (format : Format) where
  -- What the packer was given, with this answer, leads from the old state to the new one.
  abbrev pub MovesPacker : PackedState → Call → PackedState → Type 0
  MovesPacker old (Line line result) new =
      Writes kind format (packer_in_state old) (packer_in_state new) line result × CountsLine format old.held line result old.cut new.cut
  MovesPacker old (Flush result) new = Flushes kind (packer_in_state old) (packer_in_state new) result × (new.cut ≡ old.cut)

  -- All of it, in order, leads from the old state to the new one.
  abbrev pub AllMovePacker : PackedState → List Call → PackedState → Type 0
  AllMovePacker old xs new = AllLead MovesPacker old xs new

-- What a packer was given, with this answer, leads from the old state to the new one. The kind of the writer and the
-- format of the packer stay the same.
pub record Packs {P : Type 0} (kind : P → WriterKind) (history : P → PacketHistory) (old : PackingView P) (call : Call) (new : PackingView P) : Type 0 where
  pub same_kind : kind new.packer.writer ≡ kind old.packer.writer
  pub same_format : new.packer.format ≡ old.packer.format
  pub moves : MovesPacker (kind old.packer.writer) old.packer.format (packed_state history old) call (packed_state history new)

-- how many lines more the cut of a packer has room to count
abbrev pub room_of : {P A : Type 0} → Packing P A → ℕ
room_of p = vec_capacity p.cut - vec_len p.cut

-- A line was refused because the cut had no room to count it, and there was no memory for more room.
abbrev pub IsUncounted : {P A : Type 0} → Packing P A → Call → Type 0
IsUncounted p (Line line (Err e)) = (e ≡ OutOfMemory) × (room_of p ≡ 0)
IsUncounted p call = ⊥

-- A call of a packer with its cut, with this answer, leads from the old state to the new one. A line that is counted
-- takes room for one line.
pub record PacksCounted {P A : Type 0} (kind : P → WriterKind) (history : P → PacketHistory) (old : Packing P A) (call : Call) (new : Packing P A) : Type 0 where
  pub packs : Packs kind history (view_of old) call (view_of new) ⊎ (IsUncounted old call × (view_of new ≡ view_of old))
  pub room : room_of old ≤ room_of new + 1
