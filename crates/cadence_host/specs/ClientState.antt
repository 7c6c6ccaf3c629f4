-- The state of a client of C, and what each call does to it.
use Rattle.std.specs.Prelude.{◌≡◌, ℕ, ◌+◌, ◌%◌, ◌^◌, ◌≤◌, ◌<◌, ◌==◌, if◌then◌else◌, nat_lt, List, [], ◌∷◌, ◌++◌, length, codes, slice_get}
use Rattle.std.specs.Prelude.{Option, Some, None, IfSome, OnErr, OnOk, Result}
use Rattle.cadence_flow.specs.Frame.{held_packet}
use Rattle.cadence_queue.specs.Queue.{new_queue, is_full, after_accept, after_drop}
use Rattle.cadence_queue.specs.QueueState.{Queue}
use Rattle.cadence_queue.specs.declared.policy.QueuePolicy.{QueuePolicy}
use Rattle.cadence_queue.specs.declared.policy.QueuePolicy.TheVariants.{Refuse, DropOldest}
use Rattle.cadence_host.specs.Texts.{IsLineWith}
use Rattle.cadence_host.specs.declared.settings.CSettings.{CSettings}
use Rattle.cadence_host.specs.declared.call.COptions.{COptions}
use Rattle.cadence_host.specs.Status.{CADENCE_FULL, CADENCE_NO_MEMORY, IsOkOr, status}
use Rattle.cadence_host.specs.declared.client.CCounts.{CCounts}
use Rattle.cadence_host.specs.declared.status.StatusError.{StatusError}

-- The queue of finished packets, which wait for the host; the held text, which becomes the next packet; and the capacity
-- of a packet in bytes. A handle has a state, or none if it has no client.
pub record ClientState : Type 0 where
  pub queue : Queue (List ℕ)
  pub held : List ℕ
  pub capacity : ℕ

-- a new client, which holds no text and no packet; `most` is how many packets may wait
abbrev pub new_state : ℕ → ℕ → QueuePolicy → ClientState
new_state capacity most policy =
    record { queue = new_queue (Some most) policy; held = []; capacity = capacity }

-- the policy that has this number in C
abbrev pub policy_named : ℕ → Option QueuePolicy
policy_named n = if n == 0 then Some Refuse else if n == 1 then Some DropOldest else None

-- The handle has a new client with the policy of the number n, and at least two packets may wait.
abbrev pub IsNew : ℕ → ℕ → ℕ → Option ClientState → Type 0
IsNew capacity most n client =
    (2 ≤ most) × ((policy : QueuePolicy) × (policy_named n ≡ Some policy) × (client ≡ Some (new_state capacity most policy)))

-- a line with its newline
abbrev pub line_with_newline : List ℕ → List ℕ
line_with_newline line = line ++ codes "\n"

-- the queue as it is before one more packet comes: under DropOldest a full queue has dropped its oldest packet
abbrev pub queue_with_room : QueuePolicy → Queue (List ℕ) → Queue (List ℕ)
queue_with_room Refuse q = q
queue_with_room DropOldest q = if is_full q then after_drop q else q

-- the queue with one more packet, which is the last
abbrev pub queue_with_packet : Queue (List ℕ) → List ℕ → Queue (List ℕ)
queue_with_packet q packet = after_accept (queue_with_room q.policy q) packet

-- the queue with the held text as its last packet, if any text is held
abbrev pub queue_with_held : Queue (List ℕ) → List ℕ → Queue (List ℕ)
queue_with_held q [] = q
queue_with_held q (byte ∷ held) = queue_with_packet q (byte ∷ held)

-- the state after a flush: the held text is a packet of the queue, if there was any
abbrev pub after_flush : ClientState → ClientState
after_flush s = record s { queue = queue_with_held s.queue s.held; held = [] }

-- the state after an oversize line: the held text is a packet, if there was any, and then the line alone is another one
abbrev pub after_oversize : ClientState → List ℕ → ClientState
after_oversize s line = record s { queue = queue_with_packet (queue_with_held s.queue s.held) line; held = [] }

-- What a client does with a line that it keeps. If the line fits beside the held text, it is held with its newline.
-- Otherwise the held text first becomes a packet. An oversize line then becomes a packet of its own, without its
-- newline.
pub record KeepsLine (old : ClientState) (line : List ℕ) (new : ClientState) : Type 0 where
  pub fits : length old.held + (length line + 1) ≤ old.capacity → new ≡ record old { held = old.held ++ line_with_newline line }
  pub flushes_first : old.capacity < length old.held + (length line + 1)
      → length line + 1 ≤ old.capacity → new ≡ record (after_flush old) { held = line_with_newline line }
  pub oversize : old.capacity < length line + 1 → new ≡ after_oversize old line

-- The queue refuses packets if it is full, and it has no room for n more.
pub record LacksRoom (q : Queue (List ℕ)) (n : ℕ) : Type 0 where
  pub refuses : q.policy ≡ Refuse
  pub few : IfSome q.capacity (λ most. most < length q.waiting + n)

-- the packets that are made if a line doesn't fit beside the held text: the held text, and the line too if it is
-- oversize
abbrev pub packets_for_line : ClientState → List ℕ → List (List ℕ)
packets_for_line s line = held_packet s.held ++ (if nat_lt s.capacity (length line + 1) then line ∷ [] else [])

-- The line doesn't fit beside the held text, and the queue has no room for the packets that it makes.
pub record LacksRoomForLine (s : ClientState) (line : List ℕ) : Type 0 where
  pub flushes_first : s.capacity < length s.held + (length line + 1)
  pub lacks : LacksRoom s.queue (length (packets_for_line s line))

-- What an attempt to keep a line returns and does.
pub record Packs {A : Type 0} (result : Result A StatusError) (old : ClientState) (line : List ℕ) (new : ClientState) : Type 0 where
  pub packed : OnOk result (KeepsLine old line new)
  pub refused : OnErr result (new ≡ old)
  pub full : status result ≡ CADENCE_FULL → LacksRoomForLine old line
  pub statuses : IsOkOr (CADENCE_NO_MEMORY ∷ CADENCE_FULL ∷ []) (status result)

-- The queue has no room for the held text as a packet.
abbrev pub LacksRoomForHeld : ClientState → Type 0
LacksRoomForHeld s = LacksRoom s.queue (length (held_packet s.held))

-- The oldest packet that waited, which is this one, is dropped, because the host has sent it.
pub record DropsSent (old : ClientState) (packet : List ℕ) (new : ClientState) : Type 0 where
  pub oldest : old.queue.waiting ≡ packet ∷ new.queue.waiting
  pub rest : new ≡ record old { queue = record old.queue { waiting = new.queue.waiting; drained = (old.queue.drained + 1) % 2 ^ 64 } }

-- The held text, which is this one, is dropped, because the host has sent it. No packet waits.
pub record DropsHeld (old : ClientState) (text : List ℕ) (new : ClientState) : Type 0 where
  pub alone : old.queue.waiting ≡ []
  pub held : old.held ≡ text
  pub rest : new ≡ record old { held = [] }

-- These are the counts of the client.
pub record AreCountsOf (s : ClientState) (c : CCounts) : Type 0 where
  pub held : c.held ≡ length s.held
  pub waiting : c.waiting ≡ length s.queue.waiting
  pub made : c.made ≡ s.queue.submitted
  pub sent : c.sent ≡ s.queue.drained
  pub dropped : c.dropped ≡ s.queue.dropped

-- The client keeps the line of the metric that a call means with these settings, with this text as its value.
abbrev pub KeepsCall : CSettings → ℕ → List ℕ → List ℕ → COptions → ClientState → ClientState → Type 0
KeepsCall c k key value o old new = (line : List ℕ) × IsLineWith c k key value o line × KeepsLine old line new

-- The client has no room for the line of the metric that a call means with these settings, with this text as its value.
abbrev pub LacksRoomForCall : CSettings → ℕ → List ℕ → List ℕ → COptions → ClientState → Type 0
LacksRoomForCall c k key value o s = (line : List ℕ) × IsLineWith c k key value o line × LacksRoomForLine s line

-- The client makes a packet of its held text, if there is any.
abbrev pub PacksHeld : ClientState → ClientState → Type 0
PacksHeld old new = new ≡ after_flush old

-- The client drops the oldest packet that waits.
abbrev pub DropsOldest : ClientState → ClientState → Type 0
DropsOldest old new = (packet : List ℕ) × DropsSent old packet new

-- This is the oldest packet that waits.
abbrev pub IsOldest : List ℕ → ClientState → Type 0
IsOldest packet s = slice_get s.queue.waiting 0 ≡ Some packet

-- The oldest packet that waits, if one waits, has this many bytes.
abbrev pub IsOldestLength : ℕ → ClientState → Type 0
IsOldestLength size s = IfSome (slice_get s.queue.waiting 0) (λ packet. size ≡ length packet)

-- No packet waits.
abbrev pub HasNoPacket : ClientState → Type 0
HasNoPacket s = s.queue.waiting ≡ []
