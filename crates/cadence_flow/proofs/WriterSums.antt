-- The sums of a counting writer, modulo 2 to the 64.
use Rattle.std.proofs.Common.{◌≡◌, ℕ, ◌+◌, ◌%◌, ◌^◌, ◌≤◌, Bool, true, false, List, [], ◌∷◌, ◌++◌, length, take, ap, ◌∙◌, refl, arith}
use Rattle.std.proofs.Common.{length-append, length-take}
use Rattle.std.proofs.lemmas.List.Folds.{concat-append}
use Rattle.std.proofs.lemmas.List.{append-nil}
use Rattle.std.specs.List.{concat}
use Rattle.std.specs.declared.result.Result.{Result}
use Rattle.std.specs.Prelude.{Ok, Err}
use Rattle.cadence_errors.specs.declared.SinkError.{SinkError}
use Rattle.cadence_flow.specs.Writer.{PacketHistory, WriterKind, WritesPacket, after_packet, after_refusal}
use Rattle.cadence_flow.specs.declared.stats.SinkStats.{SinkStats}
use Rattle.cadence_flow.specs.Sums.{less, start_of, start_if, counted_kind, after_answer, after_refused}

-- A difference stays the same if n is added on both sides.
less_more : (s b n : ℕ) → less ((s + n) % 2 ^ 64) (b + n) ≡ less s b
less_more s b n = omega arith

length_concat_push : (ps : List (List ℕ)) (p : List ℕ) → length (concat (ps ++ p ∷ [])) ≡ length (concat ps) + length p
length_concat_push ps p = ap length (concat-append ps (p ∷ [])) ∙ length-append (concat ps) (p ++ [])
    ∙ ap (λ (l : List ℕ). length (concat ps) + length l) (append-nil p)

-- A packet of which n bytes are taken does not change the sums that the writer began with.
pub start_stays : (s : SinkStats) (h : PacketHistory) (packet : List ℕ) (n : ℕ) → n ≤ length packet
    → start_of (record s { bytes_sent = (s.bytes_sent + n) % 2 ^ 64; packets_sent = (s.packets_sent + 1) % 2 ^ 64 })
    (after_packet h (take n packet)) ≡ start_of s h
start_stays s h packet n fits = λ i.
    let bytes : length (concat (h.packets ++ take n packet ∷ [])) ≡ length (concat h.packets) + n = length_concat_push h.packets (take n packet)
    ∙ ap (λ (k : ℕ). length (concat h.packets) + k) (length-take n packet ∙ omega arith) in
    record {
      bytes_sent = (ap (less ((s.bytes_sent + n) % 2 ^ 64)) bytes ∙ less_more s.bytes_sent (length (concat h.packets)) n) i;
      packets_sent = (ap (less ((s.packets_sent + 1) % 2 ^ 64)) (length-append h.packets (take n packet ∷ []))
          ∙ less_more s.packets_sent (length h.packets) 1) i;
      bytes_dropped = less s.bytes_dropped h.refused_bytes;
      packets_dropped = less s.packets_dropped h.refusals;
    }

start_if_stays : (reports : Bool) (s s' : SinkStats) (h h' : PacketHistory) → (reports ≡ true → start_of s' h' ≡ start_of s h)
    → start_if reports s' h' ≡ start_if reports s h
start_if_stays true s s' h h' e = e refl
start_if_stays false s s' h h' e = refl

counted_stays : (k k' : WriterKind) (s s' : SinkStats) (h h' : PacketHistory) (packet : List ℕ) (n : ℕ) → k' ≡ k → n ≤ length packet
    → s' ≡ record s { bytes_sent = (s.bytes_sent + n) % 2 ^ 64; packets_sent = (s.packets_sent + 1) % 2 ^ 64 }
    → (k.reports ≡ true → h' ≡ after_packet h (take n packet)) → counted_kind k' h' s' ≡ counted_kind k h s
counted_stays k k' s s' h h' packet n same fits es taken =
    ap (λ (j : WriterKind). counted_kind j h' s') same
    ∙ ap (λ (t : SinkStats). record { may_give = k.may_give; reports = k.reports; takes_whole = k.takes_whole; start = t })
    (start_if_stays k.reports s s' h h' (λ t. ap (λ (u : SinkStats). start_of u h') es
    ∙ ap (start_of (record s { bytes_sent = (s.bytes_sent + n) % 2 ^ 64; packets_sent = (s.packets_sent + 1) % 2 ^ 64 })) (taken t)
    ∙ start_stays s h packet n fits))

refused_more : (s b n : ℕ) → less ((s + n) % 2 ^ 64) ((b + n) % 2 ^ 64) ≡ less s b
refused_more s b n = omega arith

-- A refused packet does not change the sums that the writer began with.
refused_stays : (s : SinkStats) (h : PacketHistory) (n : ℕ) → start_of (after_refused s n) (after_refusal h n) ≡ start_of s h
refused_stays s h n = λ i.
    record {
      bytes_sent = less s.bytes_sent (length (concat h.packets));
      packets_sent = less s.packets_sent (length h.packets);
      bytes_dropped = refused_more s.bytes_dropped h.refused_bytes n i;
      packets_dropped = refused_more s.packets_dropped h.refusals 1 i;
    }

-- A counting writer stays of the same kind, whatever the inner writer returns for a packet.
pub counted_answer : (k k' : WriterKind) (s s' : SinkStats) (h h' : PacketHistory) (packet : List ℕ) (result : Result ℕ SinkError) → k' ≡ k
    → WritesPacket k h h' packet result → s' ≡ after_answer s result (length packet) → counted_kind k' h' s' ≡ counted_kind k h s
counted_answer k k' s s' h h' packet (Ok n) same w e = counted_stays k k' s s' h h' packet n same w.count e w.taken
counted_answer k k' s s' h h' packet (Err fault) same w e =
    ap (λ (j : WriterKind). counted_kind j h' s') same
    ∙ ap (λ (t : SinkStats). record { may_give = k.may_give; reports = k.reports; takes_whole = k.takes_whole; start = t })
    (start_if_stays k.reports s s' h h' (λ t. (λ i. start_of (e i) (w.refused i)) ∙ refused_stays s h (length packet)))
