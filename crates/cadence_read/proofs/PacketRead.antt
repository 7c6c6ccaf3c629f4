-- The lines of a packet.
use Rattle.std.proofs.Common.{◌≡◌, ℕ, ◌-◌, ◌<◌, List, [], ◌∷◌, ◌++◌, length, map, take, drop, refl, sym, ap, ◌∙◌, subst, arith, eqb, true}
use Rattle.std.proofs.Common.{false, inl, inr, Result, Ok, Err, Vec}
use Rattle.std.specs.Prelude.{IfOk}
use lib.Pointwise.{pointwise}
use Rattle.std.proofs.lemmas.Bool.Decides.{Decides-eqb}
use Rattle.std.proofs.lemmas.Slice.Eq.{slice_eq-Decides}
use Rattle.std.specs.Prelude.{All}
use Rattle.std.specs.List.{join_with_byte}
use Rattle.std.proofs.lemmas.List.{append-nil, append_assoc, length-append, take_at, drop_at, take-append-drop}
use Rattle.std.proofs.lemmas.List.Elements.{All-cons, All-head, All-nil, All-weaker, recursion_from_All}
use Rattle.std.proofs.lemmas.List.Splits.{join_with_byte-slice_split, length-slice_split}
use Rattle.cadence_text.specs.Line.{line_of}
use Rattle.cadence_text.specs.Metric.{Metric}
use Rattle.cadence_text.specs.OneReading.{IsClear, IsPacketOf, lines_of}
use Rattle.cadence_text.specs.Owned.{metric_of_owned, metrics_of}
use Rattle.cadence_text.specs.declared.line.record.owned.OwnedMetric.{OwnedMetric}
use Rattle.cadence_value.proofs.lists.SplitTexts.{Lacks, lacks_no, each_mapped}
use Rattle.cadence_text.proofs.grammar.LineText.{free_clear, line_lacks, packet_once}
use Rattle.cadence_errors.specs.declared.input_error.InputError.TheVariants.{Unusable, OutOfMemory}
use Rattle.cadence_read.specs.Faults.{Fault}
use Rattle.cadence_read.specs.Listed.{IsListed, IsListOf, ReadsPacket}
use Rattle.cadence_read.specs.Reads.{FailsAs, ReadsOrFails}
use Rattle.cadence_read.proofs.Pieces.{pieces, pieces-joined}

-- Lines that each end in a newline are lines with a newline between each two, and one more newline.
pub lines_joined : (m : Metric) (ms : List Metric) → lines_of (m ∷ ms) ≡ join_with_byte 10 (map line_of (m ∷ ms)) ++ 10 ∷ []
lines_joined m [] = append-nil (line_of m ++ 10 ∷ [])
lines_joined m (n ∷ ns) =
    ap (λ t. (line_of m ++ 10 ∷ []) ++ t) (lines_joined n ns)
    ∙ append_assoc (line_of m) (10 ∷ []) (join_with_byte 10 (map line_of (n ∷ ns)) ++ 10 ∷ [])
    ∙ sym (append_assoc (line_of m) (10 ∷ join_with_byte 10 (map line_of (n ∷ ns))) (10 ∷ []))

cut_last : (s t : List ℕ) → s ++ 10 ∷ [] ≡ t ++ 10 ∷ [] → s ≡ t
cut_last s t e =
    let same : length s ≡ length t = omega (arith, ap (λ l. length l) e, length-append s (10 ∷ []), length-append t (10 ∷ [])) in
    sym (take_at s (10 ∷ []) (length s) refl) ∙ ap (take (length s)) e ∙ take_at t (10 ∷ []) (length s) (sym same)

-- If a packet ends in a newline, then the lines of its metrics are the pieces between its newlines.
pub packet_lines : (ms : List Metric) (lines packet : List ℕ) → All IsListed ms → packet ≡ lines ++ 10 ∷ [] → IsPacketOf ms packet
    → map line_of ms ≡ pieces 10 lines
packet_lines [] lines packet good whole (inl e) =
    absurd (omega (arith, ap (λ l. length l) e, ap (λ l. length l) whole, length-append lines (10 ∷ [])))
packet_lines (m ∷ ms) lines packet good whole (inl e) =
    let same : lines ≡ join_with_byte 10 (map line_of (m ∷ ms)) = cut_last lines (join_with_byte 10 (map line_of (m ∷ ms))) (sym whole ∙ e
    ∙ lines_joined m ms) in
    let lack = each_mapped line_of IsListed (Lacks 10) (λ m g. line_lacks m g.free) (m ∷ ms) (recursion_from_All IsListed (m ∷ ms) good) in
    sym (pieces-joined 10 (line_of m) (map line_of ms) lack) ∙ ap (pieces 10) (sym same)
packet_lines ms lines packet good whole (inr (m, only, e)) =
    absurd (lacks_no 10 lines [] (subst (Lacks 10) (sym e
    ∙ whole) (line_lacks m (All-head IsListed m [] (subst (λ l. All IsListed l) only good)).free)))

pub packet_found : (ms : List Metric) (lines packet : List ℕ) → packet ≡ lines ++ 10 ∷ [] → map line_of ms ≡ pieces 10 lines → IsPacketOf ms packet
packet_found [] lines packet whole e = absurd (omega (arith, ap (λ ps. length ps) e, length-slice_split (λ b. eqb b 10) lines))
packet_found (m ∷ ms) lines packet whole e =
    inl (whole ∙ ap (λ t. t ++ 10 ∷ []) (sym (join_with_byte-slice_split 10 lines) ∙ ap (join_with_byte 10) (sym e)) ∙ sym (lines_joined m ms))

-- A packet that doesn't end in a newline is one line.
pub packet_alone : (ms : List Metric) (packet : List ℕ) → 0 < length packet → ((lines : List ℕ) → packet ≡ lines ++ 10 ∷ [] → ⊥)
    → IsPacketOf ms packet → (m : Metric) × (ms ≡ m ∷ []) × (packet ≡ line_of m)
packet_alone [] packet some open_end (inl e) = absurd (omega (arith, ap (λ l. length l) e))
packet_alone (m ∷ ms) packet some open_end (inl e) = absurd (open_end (join_with_byte 10 (map line_of (m ∷ ms))) (e ∙ lines_joined m ms))
packet_alone ms packet some open_end (inr h) = h

-- There is at most one list of metrics with this packet.
pub list_once : (packet : List ℕ) (xs ys : List Metric) → IsListOf packet xs → IsListOf packet ys → xs ≡ ys
list_once packet xs ys hx hy =
    packet_once xs ys packet (All-weaker IsListed IsClear (λ m h. free_clear m h.free) xs hx.listed)
    (All-weaker IsListed IsClear (λ m h. free_clear m h.free) ys hy.listed) hx.whole hy.whole

-- A packet from which an end was stripped has that end. One from which it was not stripped doesn't have it.
pub suffix_found : (packet lines mark : List ℕ) → pointwise eqb (drop (length packet - length mark) packet) mark ≡ true
    → lines ≡ take (length packet - length mark) packet → packet ≡ lines ++ mark
suffix_found packet lines mark h e =
    let n = length packet - length mark in
    let same : drop n packet ≡ mark = (slice_eq-Decides Decides-eqb (drop n packet) mark (pointwise eqb (drop n packet) mark) refl).0 h in
    sym (take-append-drop n packet) ∙ ap (λ t. take n packet ++ t) same ∙ ap (λ t. t ++ mark) (sym e)

pub suffix_none : (packet mark : List ℕ) → pointwise eqb (drop (length packet - length mark) packet) mark ≡ false → (lines : List ℕ)
    → packet ≡ lines ++ mark → ⊥
suffix_none packet mark h lines e =
    let n = length packet - length mark in
    let count : length lines ≡ n = omega (arith, ap (λ l. length l) e, length-append lines mark) in
    let same : drop n packet ≡ mark = ap (drop n) e ∙ drop_at lines mark n count in
    let yes : pointwise eqb (drop n packet) mark ≡ true =
    (slice_eq-Decides Decides-eqb (drop n packet) mark (pointwise eqb (drop n packet) mark) refl).1 same in
    let bad : true ≡ false = sym yes ∙ h in absurd cc

-- If the lines of a packet that ends in a newline are read, then the packet is read.
pub packet_through : {Z : Type 0} (packet lines : List ℕ) (r : Result (Vec (OwnedMetric Z) Z) Fault) → packet ≡ lines ++ 10 ∷ []
    → ReadsOrFails (All IsListed) (map line_of) (pieces 10 lines) metrics_of r → ReadsPacket packet r
packet_through packet lines (Ok v) whole h = record { listed = h.0; whole = packet_found (metrics_of v) lines packet whole h.1 }
packet_through packet lines (Err (Unusable why)) whole h = λ ms list. h ms (list.listed, packet_lines ms lines packet list.listed whole list.whole)
packet_through packet lines (Err OutOfMemory) whole h = tt

-- If a packet doesn't end in a newline, and its line can't be read, then the packet can't be read.
pub alone_fails : {Z : Type 0} (packet : List ℕ) (r : Result (Vec (OwnedMetric Z) Z) Fault) (e : Fault) → r ≡ Err e
    → 0 < length packet → ((lines : List ℕ) → packet ≡ lines ++ 10 ∷ [] → ⊥) → FailsAs IsListed line_of packet e → ReadsPacket packet r
alone_fails packet r (Unusable why) is some open_end none = rw is (λ ms list.
    let (m, only, e) = packet_alone ms packet some open_end list.whole in
    none m (All-head IsListed m [] (subst (λ l. All IsListed l) only list.listed), sym e))
alone_fails packet r OutOfMemory is some open_end none = rw is tt

pub only_list : {Z : Type 0} (packet : List ℕ) (r : Result (Vec (OwnedMetric Z) Z) Fault) → ReadsPacket packet r
    → IfOk r (λ v. (others : List Metric) → IsListOf packet others → others ≡ metrics_of v)
only_list packet (Ok v) h = λ others list. list_once packet others (metrics_of v) list h
only_list packet (Err (Unusable why)) h = tt
only_list packet (Err OutOfMemory) h = tt

-- The empty packet has no metrics.
pub empty_packet : {Z : Type 0} (packet : List ℕ) (v : Vec (OwnedMetric Z) Z) → length packet ≡ 0 → v.items ≡ [] → IsListOf packet (metrics_of v)
empty_packet [] v none e = subst (λ items. IsListOf [] (map metric_of_owned items)) (sym e) (record { listed = All-nil IsListed; whole = inl refl })
empty_packet (b ∷ packet) v none e = absurd (omega arith)

-- A packet that is one line has one metric.
pub alone_found : {Z : Type 0} (packet : List ℕ) (v : Vec (OwnedMetric Z) Z) (m : OwnedMetric Z) → v.items ≡ m ∷ []
    → IsListed (metric_of_owned m) × (line_of (metric_of_owned m) ≡ packet) → IsListOf packet (metrics_of v)
alone_found packet v m e h =
    subst (λ items. IsListOf packet (map metric_of_owned items)) (sym e)
    (record { listed = All-cons IsListed (metric_of_owned m) [] h.0 (All-nil IsListed); whole = inr (metric_of_owned m, refl, sym h.1) })
