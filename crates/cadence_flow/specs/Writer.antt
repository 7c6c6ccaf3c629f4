-- What contracts say of a writer of packets.
use Rattle.std.specs.Prelude.{◌≡◌, ℕ, ◌+◌, ◌%◌, ◌^◌, ◌<◌, ◌≤◌, Bool, true, List, [], ◌∷◌, ◌++◌, length, take, Ok, Err, IfOk, IfErr, OnOk, All}
use Rattle.std.specs.declared.result.Result.{Result}
use Rattle.std.specs.List.{concat}
use Rattle.cadence_errors.specs.declared.SinkError.{SinkError}
use Rattle.cadence_flow.specs.declared.io.refusals.Refusals.{Refusals}
use Rattle.cadence_flow.specs.declared.stats.SinkStats.{SinkStats}

-- the history of a writer: the packets that it took, the oldest first, and the number and total length of the packets
-- that it refused, both modulo 2^64
pub record PacketHistory : Type 0 where
  pub packets : List (List ℕ)
  pub refusals : ℕ
  pub refused_bytes : ℕ

-- the kind of a writer, which no call changes: the errors that it may return; whether it reports its packets, so that its
-- history has them; whether it takes each packet whole or refuses it; and the sums that a counting writer began with
pub record WriterKind : Type 0 where
  pub may_give : SinkError → Bool
  pub reports : Bool
  pub takes_whole : Bool
  pub start : SinkStats

-- The writer reports its packets.
abbrev pub Reports : WriterKind → Type 0
Reports kind = kind.reports ≡ true

-- The writer takes each packet whole or refuses it.
abbrev pub TakesWhole : WriterKind → Type 0
TakesWhole kind = kind.takes_whole ≡ true

-- the history after one more packet was taken
abbrev pub after_packet : PacketHistory → List ℕ → PacketHistory
after_packet h packet =
    record { packets = h.packets ++ packet ∷ []; refusals = h.refusals; refused_bytes = h.refused_bytes }

-- no refusals
abbrev pub no_refusals : Refusals
no_refusals = record { count = 0; bytes = 0 }

-- the refusals after one more packet was refused, of n bytes
abbrev pub one_more_refusal : Refusals → ℕ → Refusals
one_more_refusal refusals n = record { count = (refusals.count + 1) % 2 ^ 64; bytes = (refusals.bytes + n) % 2 ^ 64 }

-- the refusals after a writer returned this result for a packet of n bytes: an error is one more
abbrev pub refusals_after : Refusals → Result ℕ SinkError → ℕ → Refusals
refusals_after refusals (Ok taken) n = refusals
refusals_after refusals (Err e) n = one_more_refusal refusals n

-- the history of these packets and refusals
abbrev pub history_of : List (List ℕ) → Refusals → PacketHistory
history_of packets refusals = record { packets = packets; refusals = refusals.count; refused_bytes = refusals.bytes }

-- the refusals of a history
abbrev pub refusals_of : PacketHistory → Refusals
refusals_of h = record { count = h.refusals; bytes = h.refused_bytes }

-- the history after one more packet was refused, of n bytes
abbrev pub after_refusal : PacketHistory → ℕ → PacketHistory
after_refusal h n = history_of h.packets (one_more_refusal (refusals_of h) n)

-- Nothing was refused between the two histories.
abbrev pub RefusedNothing : PacketHistory → PacketHistory → Type 0
RefusedNothing old new = (new.refusals ≡ old.refusals) × (new.refused_bytes ≡ old.refused_bytes)

-- One packet, of n bytes, was refused between the two histories.
abbrev pub RefusedOne : PacketHistory → PacketHistory → ℕ → Type 0
RefusedOne old new n =
    (new.refusals ≡ (after_refusal old n).refusals) × (new.refused_bytes ≡ (after_refusal old n).refused_bytes)

-- The packets of the new history are those of the old one, and then perhaps more.
abbrev pub Extends : PacketHistory → PacketHistory → Type 0
Extends old new = (more : List (List ℕ)) × (new.packets ≡ old.packets ++ more)

-- What a writer does with one packet that is offered to it.
pub record WritesPacket (kind : WriterKind) (old new : PacketHistory) (packet : List ℕ) (result : Result ℕ SinkError) : Type 0 where
  -- the count is how many of the packet's first bytes were taken; a writer that takes whole takes all of them
  pub count : IfOk result (λ n. n ≤ length packet)
  pub whole : TakesWhole kind → IfOk result (λ n. n ≡ length packet)
  -- the history of a writer that reports has one more packet: these bytes
  pub taken : Reports kind → IfOk result (λ n. new ≡ after_packet old (take n packet))
  pub kept : OnOk result (RefusedNothing old new)
  -- an error is one that the writer may return, and counts as one refusal of the whole packet
  pub may_give : IfErr result (λ e. kind.may_give e ≡ true)
  pub refused : IfErr result (λ _. new ≡ after_refusal old (length packet))

-- Between the two histories the text was taken, in packets that are not empty.
pub record Sends (old new : PacketHistory) (text : List ℕ) : Type 0 where
  pub more : List (List ℕ)
  pub packets : new.packets ≡ old.packets ++ more
  pub joined : concat more ≡ text
  pub none_empty : All (λ (p : List ℕ). 0 < length p) more

-- Between the two histories the text was taken, in packets that are not empty, and then this packet.
pub record SendsThen (old new : PacketHistory) (text packet : List ℕ) : Type 0 where
  pub more : List (List ℕ)
  pub packets : new.packets ≡ old.packets ++ (more ++ packet ∷ [])
  pub joined : concat more ≡ text
  pub none_empty : All (λ (p : List ℕ). 0 < length p) more
