-- Many calls of a client, one after the other: no line is lost, and a queue that refuses packets if it is full drops
-- none.
use Rattle.std.proofs.Common.{◌≡◌, ℕ, ◌+◌, ◌<◌, ◌≤◌, List, [], ◌∷◌, ◌++◌, length, take, drop, codes, cond, refl, sym, ap, ap₂, ◌∙◌, ⊎_elim}
use Rattle.std.proofs.Common.{append_assoc, Bool, true, false}
use Rattle.std.specs.List.{concat, filter_map}
use Rattle.std.proofs.lemmas.List.{append-nil}
use Rattle.std.proofs.lemmas.List.Folds.{concat-append}
use Rattle.std.proofs.lemmas.Bool.{cases_lt, le-ltb, lt-ltb, cond-true, cond-false}
use Rattle.cadence_flow.proofs.Histories.{concat-push}
use Rattle.cadence_flow.specs.Frame.{Format, frame, stream}
use Rattle.cadence_queue.specs.Queue.{is_full, after_accept, after_drop}
use Rattle.cadence_queue.specs.QueueState.{Queue}
use Rattle.cadence_queue.specs.declared.policy.QueuePolicy.{QueuePolicy}
use Rattle.cadence_queue.specs.declared.policy.QueuePolicy.TheVariants.{Refuse, DropOldest}
use Rattle.cadence_host.specs.Run.{Act, keeps, flushes, sends, sends_held, Does, Drops, Leads, NothingIsDropped, NothingIsLost, dropped_for_packet}
use Rattle.cadence_host.specs.Run.{dropped_for_held, line_of_act, packet_of_act}
use Rattle.cadence_host.specs.ClientState.{ClientState, KeepsLine, queue_with_held, line_with_newline, queue_with_room, new_state, queue_with_packet}

-- the format of packets of a capacity
abbrev format_of : ℕ → Format
format_of capacity = record { capacity = capacity; ending = codes "\n" }

-- the packets that wait, joined, and then the held text
abbrev whole : ClientState → List ℕ
whole s = concat s.queue.waiting ++ s.held

-- The oldest packet, followed by the other packets with one more at the end, are all packets and the one more.
first_and_rest : (ps : List (List ℕ)) (p : List ℕ) → concat (take 1 ps) ++ concat (drop 1 ps ++ p ∷ []) ≡ concat ps ++ p
first_and_rest [] p = append-nil p
first_and_rest (x ∷ ps) p =
    ap (λ (l : List ℕ). l ++ concat (ps ++ p ∷ [])) (append-nil x)
    ∙ (ap (λ (l : List ℕ). x ++ l) (concat-push ps p) ∙ sym (append_assoc x (concat ps) p))

-- If a full queue drops its oldest packet for one more, the packets that left and those that wait grow by the one more.
drops_text : (full : Bool) (q : Queue (List ℕ)) (p : List ℕ)
    → concat (cond full (take 1 q.waiting) []) ++ concat (after_accept (cond full (after_drop q) q) p).waiting ≡ concat q.waiting ++ p
drops_text true q p = first_and_rest q.waiting p
drops_text false q p = concat-push q.waiting p

-- A queue that makes room for one more packet under its policy loses no bytes.
room_text : (policy : QueuePolicy) (q : Queue (List ℕ)) (p : List ℕ)
    → concat (dropped_for_packet policy q) ++ concat (after_accept (queue_with_room policy q) p).waiting ≡ concat q.waiting ++ p
room_text Refuse q p = concat-push q.waiting p
room_text DropOldest q p = drops_text (is_full q) q p

-- A queue that gets one more packet loses no bytes.
packet_text : (q : Queue (List ℕ)) (p : List ℕ)
    → concat (dropped_for_packet q.policy q) ++ concat (queue_with_packet q p).waiting ≡ concat q.waiting ++ p
packet_text q p = room_text q.policy q p

-- A queue that gets the held text as a packet loses no bytes.
held_text : (q : Queue (List ℕ)) (held : List ℕ)
    → concat (dropped_for_held q held) ++ concat (queue_with_held q held).waiting ≡ concat q.waiting ++ held
held_text q [] = sym (append-nil (concat q.waiting))
held_text q (byte ∷ held) = packet_text q (byte ∷ held)

-- If a client keeps a line, the bytes that left the client and those that it has together grow by the frame of the
-- line.
line_text : (s t : ClientState) (line : List ℕ) (left : List (List ℕ)) → KeepsLine s line t → Drops s line left
    → concat left ++ whole t ≡ whole s ++ frame (format_of s.capacity) line
line_text s t line left kept drops =
    let size = length line + 1 in
    let q = queue_with_held s.queue s.held in
    let before = concat s.queue.waiting in
    ⊎_elim
    (λ (large : s.capacity < size).
    let framed : frame (format_of s.capacity) line ≡ line = cond-true _ line (line ++ codes "\n") (lt-ltb s.capacity size large) in
    let first : concat (dropped_for_held s.queue s.held) ++ concat q.waiting ≡ before ++ s.held = held_text s.queue s.held in
    let second : concat (dropped_for_packet q.policy q) ++ concat (queue_with_packet q line).waiting ≡ concat q.waiting ++ line =
    packet_text q line in
    ap (λ (l : List (List ℕ)). concat l ++ whole t) (drops.oversize large)
    ∙ (ap (λ (u : ClientState). concat (dropped_for_held s.queue s.held ++ dropped_for_packet q.policy q) ++ whole u) (kept.oversize large)
    ∙ (ap (λ (l : List ℕ). l ++ (concat (queue_with_packet q line).waiting ++ []))
    (concat-append (dropped_for_held s.queue s.held) (dropped_for_packet q.policy q))
    ∙ (ap (λ (l : List ℕ). (concat (dropped_for_held s.queue s.held) ++ concat (dropped_for_packet q.policy q)) ++ l)
    (append-nil (concat (queue_with_packet q line).waiting))
    ∙ (append_assoc (concat (dropped_for_held s.queue s.held)) (concat (dropped_for_packet q.policy q)) (concat (queue_with_packet q line).waiting)
    ∙ (ap (λ (l : List ℕ). concat (dropped_for_held s.queue s.held) ++ l) second
    ∙ (sym (append_assoc (concat (dropped_for_held s.queue s.held)) (concat q.waiting) line)
    ∙ (ap (λ (l : List ℕ). l ++ line) first
    ∙ ap (λ (l : List ℕ). (before ++ s.held) ++ l) (sym framed)))))))))
    (λ (small : size ≤ s.capacity).
    let framed : frame (format_of s.capacity) line ≡ line_with_newline line = cond-false _ line (line ++ codes "\n") (le-ltb s.capacity size small) in
    ⊎_elim
    (λ (past : s.capacity < length s.held + size).
    ap (λ (l : List (List ℕ)). concat l ++ whole t) (drops.flushes_first past small)
    ∙ (ap (λ (u : ClientState). concat (dropped_for_held s.queue s.held) ++ whole u) (kept.flushes_first past small)
    ∙ (sym (append_assoc (concat (dropped_for_held s.queue s.held)) (concat q.waiting) (line_with_newline line))
    ∙ (ap (λ (l : List ℕ). l ++ line_with_newline line) (held_text s.queue s.held)
    ∙ ap (λ (l : List ℕ). (before ++ s.held) ++ l) (sym framed)))))
    (λ (fits : length s.held + size ≤ s.capacity).
    ap (λ (l : List (List ℕ)). concat l ++ whole t) (drops.fits fits)
    ∙ (ap whole (kept.fits fits)
    ∙ (sym (append_assoc before s.held (line_with_newline line))
    ∙ ap (λ (l : List ℕ). (before ++ s.held) ++ l) (sym framed))))
    (cases_lt s.capacity (length s.held + size)))
    (cases_lt s.capacity size)

-- If a client keeps a line, its capacity stays the same.
line_capacity : (s t : ClientState) (line : List ℕ) → KeepsLine s line t → t.capacity ≡ s.capacity
line_capacity s t line kept =
    ⊎_elim
    (λ (large : s.capacity < length line + 1). ap (λ (u : ClientState). u.capacity) (kept.oversize large))
    (λ (small : length line + 1 ≤ s.capacity).
    ⊎_elim
    (λ (past : s.capacity < length s.held + (length line + 1)). ap (λ (u : ClientState). u.capacity) (kept.flushes_first past small))
    (λ (fits : length s.held + (length line + 1) ≤ s.capacity). ap (λ (u : ClientState). u.capacity) (kept.fits fits))
    (cases_lt s.capacity (length s.held + (length line + 1))))
    (cases_lt s.capacity (length line + 1))

-- No act changes the capacity.
capacity_stays : (act : Act) (s t : ClientState) (left : List (List ℕ)) → Does act s t left → t.capacity ≡ s.capacity
capacity_stays (keeps line) s t left does = line_capacity s t line does.0
capacity_stays flushes s t left does = ap (λ (u : ClientState). u.capacity) does.0
capacity_stays (sends packet) s t left does = ap (λ (u : ClientState). u.capacity) does.0.rest
capacity_stays (sends_held text) s t left does = ap (λ (u : ClientState). u.capacity) does.0.rest

-- the frames of the lines that acts keep
abbrev frames : ℕ → List Act → List ℕ
frames capacity acts = stream (format_of capacity) (filter_map line_of_act acts)

-- After an act, the bytes that left the client and those that it has together grow by the frame of the line that the
-- act keeps.
act_text : (act : Act) (s t : ClientState) (left : List (List ℕ)) → Does act s t left → concat left ++ whole t ≡ whole s ++ frames s.capacity (act ∷ [])
act_text (keeps line) s t left does =
    line_text s t line left does.0 does.1 ∙ ap (λ (l : List ℕ). whole s ++ l) (sym (append-nil (frame (format_of s.capacity) line)))
act_text flushes s t left does =
    ap (λ (l : List (List ℕ)). concat l ++ whole t) does.1
    ∙ (ap (λ (u : ClientState). concat (dropped_for_held s.queue s.held) ++ whole u) does.0
    ∙ (ap (λ (l : List ℕ). concat (dropped_for_held s.queue s.held) ++ l) (append-nil (concat (queue_with_held s.queue s.held).waiting))
    ∙ (held_text s.queue s.held ∙ sym (append-nil (whole s)))))
act_text (sends packet) s t left does =
    ap (λ (l : List (List ℕ)). concat l ++ whole t) does.1
    ∙ (ap (λ (l : List ℕ). l ++ whole t) (append-nil packet)
    ∙ (sym (append_assoc packet (concat t.queue.waiting) t.held)
    ∙ (ap (λ (l : List ℕ). (packet ++ concat t.queue.waiting) ++ l) (ap (λ (u : ClientState). u.held) does.0.rest)
    ∙ (ap (λ (ps : List (List ℕ)). concat ps ++ s.held) (sym does.0.oldest) ∙ sym (append-nil (whole s))))))
act_text (sends_held text) s t left does =
    ap (λ (l : List (List ℕ)). concat l ++ whole t) does.1
    ∙ (ap (λ (u : ClientState). (text ++ []) ++ whole u) does.0.rest
    ∙ (ap (λ (ps : List (List ℕ)). (text ++ []) ++ (concat ps ++ [])) does.0.alone
    ∙ (append-nil (text ++ [])
    ∙ sym (ap₂ (λ (ps : List (List ℕ)) (held : List ℕ). (concat ps ++ held) ++ []) does.0.alone does.0.held))))

-- The frames of an act and further acts are its frames and then theirs.
frames-cons : (capacity : ℕ) (act : Act) (acts : List Act) → frames capacity (act ∷ acts) ≡ frames capacity (act ∷ []) ++ frames capacity acts
frames-cons capacity (keeps line) acts = ap (λ (l : List ℕ). l ++ frames capacity acts) (sym (append-nil (frame (format_of capacity) line)))
frames-cons capacity flushes acts = refl
frames-cons capacity (sends packet) acts = refl
frames-cons capacity (sends_held text) acts = refl

-- After acts, the bytes that left the client and those that it has together grow by the frames of the lines that the
-- acts keep.
run_text : (acts : List Act) (s t : ClientState) (left : List (List ℕ)) → Leads acts s t left → concat left ++ whole t ≡ whole s ++ frames s.capacity acts
run_text [] s t left leads =
    ap (λ (l : List (List ℕ)). concat l ++ whole t) leads.1 ∙ (ap whole leads.0 ∙ sym (append-nil (whole s)))
run_text (act ∷ acts) s t left leads =
    let mid = leads.0 in
    let first = leads.1 in
    let rest = leads.2 in
    let after : concat rest ++ whole t ≡ whole mid ++ frames mid.capacity acts = run_text acts mid t rest leads.4 in
    let same : mid.capacity ≡ s.capacity = capacity_stays act s mid first leads.3 in
    ap (λ (l : List (List ℕ)). concat l ++ whole t) leads.5
    ∙ (ap (λ (l : List ℕ). l ++ whole t) (concat-append first rest)
    ∙ (append_assoc (concat first) (concat rest) (whole t)
    ∙ (ap (λ (l : List ℕ). concat first ++ l) (after ∙ ap (λ (c : ℕ). whole mid ++ frames c acts) same)
    ∙ (sym (append_assoc (concat first) (whole mid) (frames s.capacity acts))
    ∙ (ap (λ (l : List ℕ). l ++ frames s.capacity acts) (act_text act s mid first leads.3)
    ∙ (append_assoc (whole s) (frames s.capacity (act ∷ [])) (frames s.capacity acts)
    ∙ ap (λ (l : List ℕ). whole s ++ l) (sym (frames-cons s.capacity act acts))))))))

pub nothing_is_lost : NothingIsLost
nothing_is_lost capacity most policy acts t left leads = run_text acts (new_state capacity most policy) t left leads

-- A queue that refuses packets if it is full has the same policy after one more packet.
packet_policy : (q : Queue (List ℕ)) (p : List ℕ) → q.policy ≡ Refuse → (queue_with_packet q p).policy ≡ Refuse
packet_policy q p e = ap (λ (policy : QueuePolicy). (queue_with_room policy q).policy) e ∙ e

-- A queue that refuses packets if it is full has the same policy after the held text became a packet.
held_policy : (q : Queue (List ℕ)) (held : List ℕ) → q.policy ≡ Refuse → (queue_with_held q held).policy ≡ Refuse
held_policy q [] e = e
held_policy q (byte ∷ held) e = packet_policy q (byte ∷ held) e

-- A queue that refuses packets if it is full drops no packet to make room for the held text.
none_for_held : (q : Queue (List ℕ)) (held : List ℕ) → q.policy ≡ Refuse → dropped_for_held q held ≡ []
none_for_held q [] e = refl
none_for_held q (byte ∷ held) e = ap (λ (policy : QueuePolicy). dropped_for_packet policy q) e

-- A queue that refuses packets if it is full drops no packet to make room for the held text and an oversize line.
none_for_oversize : (q : Queue (List ℕ)) (held : List ℕ) → q.policy ≡ Refuse
    → dropped_for_held q held ++ dropped_for_packet (queue_with_held q held).policy (queue_with_held q held) ≡ []
none_for_oversize q held e =
    ap (λ (l : List (List ℕ)). l ++ dropped_for_packet (queue_with_held q held).policy (queue_with_held q held)) (none_for_held q held e)
    ∙ ap (λ (policy : QueuePolicy). dropped_for_packet policy (queue_with_held q held)) (held_policy q held e)

-- A client whose queue refuses packets if it is full drops no packet when it keeps a line, and the queue has the same
-- policy afterwards.
line_refuses : (s t : ClientState) (line : List ℕ) (left : List (List ℕ)) → s.queue.policy ≡ Refuse → KeepsLine s line t → Drops s line left
    → (left ≡ []) × (t.queue.policy ≡ Refuse)
line_refuses s t line left e kept drops =
    ⊎_elim
    (λ (large : s.capacity < length line + 1). (
      drops.oversize large ∙ none_for_oversize s.queue s.held e,
      ap (λ (u : ClientState). u.queue.policy) (kept.oversize large)
          ∙ packet_policy (queue_with_held s.queue s.held) line (held_policy s.queue s.held e),
    ))
    (λ (small : length line + 1 ≤ s.capacity).
    ⊎_elim
    (λ (past : s.capacity < length s.held + (length line + 1)). (
      drops.flushes_first past small ∙ none_for_held s.queue s.held e,
      ap (λ (u : ClientState). u.queue.policy) (kept.flushes_first past small)
          ∙ held_policy s.queue s.held e,
    ))
    (λ (fits : length s.held + (length line + 1) ≤ s.capacity). (drops.fits fits, ap (λ (u : ClientState). u.queue.policy) (kept.fits fits) ∙ e))
    (cases_lt s.capacity (length s.held + (length line + 1))))
    (cases_lt s.capacity (length line + 1))

-- If an act makes a packet leave a client whose queue refuses packets if it is full, the host has sent this packet, and
-- the queue has the same policy afterwards.
act_refuses : (act : Act) (s t : ClientState) (left : List (List ℕ)) → s.queue.policy ≡ Refuse → Does act s t left
    → (left ≡ filter_map packet_of_act (act ∷ [])) × (t.queue.policy ≡ Refuse)
act_refuses (keeps line) s t left e does = line_refuses s t line left e does.0 does.1
act_refuses flushes s t left e does =
    (does.1 ∙ none_for_held s.queue s.held e, ap (λ (u : ClientState). u.queue.policy) does.0 ∙ held_policy s.queue s.held e)
act_refuses (sends packet) s t left e does = (does.1, ap (λ (u : ClientState). u.queue.policy) does.0.rest ∙ e)
act_refuses (sends_held text) s t left e does = (does.1, ap (λ (u : ClientState). u.queue.policy) does.0.rest ∙ e)

-- The packets that acts send are those of the first act and then those of the others.
sent-cons : (act : Act) (acts : List Act)
    → filter_map packet_of_act (act ∷ acts) ≡ filter_map packet_of_act (act ∷ []) ++ filter_map packet_of_act acts
sent-cons (keeps line) acts = refl
sent-cons flushes acts = refl
sent-cons (sends packet) acts = refl
sent-cons (sends_held text) acts = refl

-- If acts make packets leave a client whose queue refuses packets if it is full, these are the packets that the host
-- has sent.
run_refuses : (acts : List Act) (s t : ClientState) (left : List (List ℕ)) → s.queue.policy ≡ Refuse → Leads acts s t left
    → left ≡ filter_map packet_of_act acts
run_refuses [] s t left e leads = leads.1
run_refuses (act ∷ acts) s t left e leads =
    let one : (leads.1 ≡ filter_map packet_of_act (act ∷ [])) × (leads.0.queue.policy ≡ Refuse) = act_refuses act s leads.0 leads.1 e leads.3 in
    leads.5
    ∙ (ap (λ (l : List (List ℕ)). l ++ leads.2) one.0
    ∙ (ap (λ (l : List (List ℕ)). filter_map packet_of_act (act ∷ []) ++ l) (run_refuses acts leads.0 t leads.2 one.1 leads.4)
    ∙ sym (sent-cons act acts)))

pub nothing_is_dropped : NothingIsDropped
nothing_is_dropped capacity most acts t left leads = run_refuses acts (new_state capacity most Refuse) t left refl leads
