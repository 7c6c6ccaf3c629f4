-- The packets that a writer is given by a stream, and those of them that are lost.
use Rattle.std.specs.Prelude.{◌≡◌, ◌⊎◌, ℕ, ◌+◌, ◌%◌, ◌^◌, ◌==◌, Bool, true, false, if◌then◌else◌, List, [], ◌∷◌, ◌++◌, length, map, count_by}
use Rattle.std.specs.List.{filter, sum_by, zip}
use Rattle.cadence_errors.specs.declared.SinkError.{SinkError}
use Rattle.cadence_errors.specs.declared.SinkError.TheVariants.{OutOfMemory}
use Rattle.cadence_flow.specs.Sums.{zero_sums}
use Rattle.cadence_flow.specs.Writer.{PacketHistory, WriterKind, Reports, TakesWhole, after_packet}
use Rattle.cadence_send.specs.declared.board.Losses.{Losses}

-- whether the error says that memory ran out
abbrev pub is_out_of_memory : SinkError → Bool
is_out_of_memory OutOfMemory = true
is_out_of_memory _ = false

-- the kind of a writer that outlives every refusal, but not that memory runs out
abbrev pub lasting_kind : WriterKind
lasting_kind = record { may_give = is_out_of_memory; reports = true; takes_whole = true; start = zero_sums }

-- the kind of a writer that takes each packet and reports none
abbrev pub nowhere_kind : WriterKind
nowhere_kind = record { may_give = λ _. false; reports = false; takes_whole = true; start = zero_sums }

-- a packet that a writer was given, and whether it was lost
abbrev pub Fate : Type 0
Fate = List ℕ × Bool

-- the fates of these packets, if these say whether each is lost
abbrev pub fates_of : List (List ℕ) → List Bool → List Fate
fates_of packets are_lost = zip packets are_lost

-- the packets of these fates
abbrev pub packets_in : List Fate → List (List ℕ)
packets_in fates = map (λ f. f.0) fates

-- the lost packets, the oldest first
abbrev pub lost_of : List Fate → List (List ℕ)
lost_of fates = packets_in (filter (λ f. f.1) fates)

-- how many lines a packet has: one for each newline, or one if it has no newline, because it is one long line then
abbrev pub lines_of_packet : List ℕ → ℕ
lines_of_packet packet =
    let newlines = count_by (λ byte. byte == 10) packet in
    if newlines == 0 then 1 else newlines

-- how many packets have these fates, how many of them are lost, and how many lines the lost ones have
abbrev pub losses_of : List Fate → Losses
losses_of fates =
    record {
      given = length fates % 2 ^ 64;
      packets = length (lost_of fates) % 2 ^ 64;
      lines = sum_by lines_of_packet (lost_of fates) % 2 ^ 64;
    }

-- The writer below took the packet whole, and it is not lost.
pub record IsSent (kind : WriterKind) (old new : PacketHistory) (before after : List Fate) (packet : List ℕ) : Type 0 where
  pub fate : after ≡ before ++ (packet, false) ∷ []
  pub taken : Reports kind → new ≡ after_packet old packet

-- The packet is lost. A writer below that takes whole did not take it, but refused it.
pub record IsLost (kind : WriterKind) (old new : PacketHistory) (before after : List Fate) (packet : List ℕ) : Type 0 where
  pub fate : after ≡ before ++ (packet, true) ∷ []
  pub kept : TakesWhole kind → new.packets ≡ old.packets
  -- the writer below was asked: it refused one more packet, or it may take only a part of a packet
  pub cause : (new.refusals ≡ ((old.refusals + 1) % 2 ^ 64)) ⊎ (TakesWhole kind → ⊥)

-- The packet was sent, or it is lost.
abbrev pub IsSentOrLost : WriterKind → PacketHistory → PacketHistory → List Fate → List Fate → List ℕ → Type 0
IsSentOrLost kind old new before after packet = IsSent kind old new before after packet ⊎ IsLost kind old new before after packet
