-- Many calls of a client, one after the other, and what becomes of their lines.
use Rattle.std.specs.Prelude.{◌≡◌, ℕ, ◌+◌, ◌<◌, ◌≤◌, List, [], ◌∷◌, ◌++◌, length, take, codes, if◌then◌else◌, Option, Some, None}
use Rattle.std.specs.List.{concat, filter_map}
use Rattle.cadence_flow.specs.Frame.{stream}
use Rattle.cadence_queue.specs.Queue.{is_full}
use Rattle.cadence_queue.specs.QueueState.{Queue}
use Rattle.cadence_queue.specs.declared.policy.QueuePolicy.{QueuePolicy}
use Rattle.cadence_queue.specs.declared.policy.QueuePolicy.TheVariants.{Refuse, DropOldest}
use Rattle.cadence_host.specs.ClientState.{ClientState, DropsHeld, DropsSent, KeepsLine, after_flush, new_state, queue_with_held}

-- What a call that returns CADENCE_OK does: it keeps a line, makes a packet of the held text, or drops a packet or the
-- held text because the host has sent it. A call that returns another status does nothing.
pub data Act : Type 0 where
  keeps : List ℕ → Act
  flushes : Act
  sends : List ℕ → Act
  sends_held : List ℕ → Act

-- the line that an act keeps, if it keeps one
abbrev pub line_of_act : Act → Option (List ℕ)
line_of_act (keeps line) = Some line
line_of_act flushes = None
line_of_act (sends packet) = None
line_of_act (sends_held text) = None

-- the packet, or the held text, that the host sent before an act, if the act drops one
abbrev pub packet_of_act : Act → Option (List ℕ)
packet_of_act (keeps line) = None
packet_of_act flushes = None
packet_of_act (sends packet) = Some packet
packet_of_act (sends_held text) = Some text

-- the packets that a queue drops to make room for one more: under DropOldest a full queue drops its oldest
abbrev pub dropped_for_packet : QueuePolicy → Queue (List ℕ) → List (List ℕ)
dropped_for_packet Refuse q = []
dropped_for_packet DropOldest q = if is_full q then take 1 q.waiting else []

-- the packets that a queue drops to make room for the held text, if any text is held
abbrev pub dropped_for_held : Queue (List ℕ) → List ℕ → List (List ℕ)
dropped_for_held q [] = []
dropped_for_held q (byte ∷ held) = dropped_for_packet q.policy q

-- These packets are dropped to make room for the packets that a kept line makes.
pub record Drops (s : ClientState) (line : List ℕ) (dropped : List (List ℕ)) : Type 0 where
  pub fits : length s.held + (length line + 1) ≤ s.capacity → dropped ≡ []
  pub flushes_first : s.capacity < length s.held + (length line + 1)
      → length line + 1 ≤ s.capacity → dropped ≡ dropped_for_held s.queue s.held
  pub oversize : s.capacity < length line + 1
      → dropped ≡ dropped_for_held s.queue s.held
      ++ dropped_for_packet (queue_with_held s.queue s.held).policy (queue_with_held s.queue s.held)

-- The act leads from a state to the next, and these packets leave the client: they are dropped, for room or because
-- they were sent.
abbrev pub Does : Act → ClientState → ClientState → List (List ℕ) → Type 0
Does (keeps line) s t left = KeepsLine s line t × Drops s line left
Does flushes s t left = (t ≡ after_flush s) × (left ≡ dropped_for_held s.queue s.held)
Does (sends packet) s t left = DropsSent s packet t × (left ≡ packet ∷ [])
Does (sends_held text) s t left = DropsHeld s text t × (left ≡ text ∷ [])

-- The acts lead from one state to another, and these packets leave the client meanwhile, in this order.
abbrev pub Leads : List Act → ClientState → ClientState → List (List ℕ) → Type 0
Leads [] s t left = (t ≡ s) × (left ≡ [])
Leads (act ∷ acts) s t left =
    (mid : ClientState) × (first : List (List ℕ)) × (rest : List (List ℕ)) × Does act s mid first × Leads acts mid t rest × (left ≡ first ++ rest)

-- After any acts of a new client, the packets that left it, then the packets that wait, and then the held text are,
-- joined, the frames of the lines that it kept, in order.
abbrev pub NothingIsLost : Type 0
NothingIsLost =
    (capacity most : ℕ) (policy : QueuePolicy) (acts : List Act) (t : ClientState) (left : List (List ℕ))
    → Leads acts (new_state capacity most policy) t left
    → concat left ++ (concat t.queue.waiting ++ t.held) ≡ stream (record { capacity = capacity; ending = codes "\n" }) (filter_map line_of_act acts)

-- After any acts of a new client whose queue refuses packets if it is full, the packets that left it are those that the
-- host sent.
abbrev pub NothingIsDropped : Type 0
NothingIsDropped =
    (capacity most : ℕ) (acts : List Act) (t : ClientState) (left : List (List ℕ))
    → Leads acts (new_state capacity most Refuse) t left
    → left ≡ filter_map packet_of_act acts
