use Rattle.std.proofs.Common.{rules, arith, ◌≡◌, ◌∙◌, ◌+◌, ◌<◌, sym, ap, map, length, get_or, take, ◌++◌, ◌∷◌, [], Err, ℕ, Vec}
use Rattle.std.proofs.lemmas.List.{map-append, length-append, length-map, get_or_append_left}
use Rattle.std.proofs.Math.Seq.{get_or-append_seam}
use Rattle.cadence_text.specs.Owned.{metrics_of, metric_of_owned}
use Rattle.cadence_read.specs.Faults.{not_metrics}
use Rattle.cadence_read.proofs.RunRead.{listed_more, listed_same, packet_at, run_fails, run_once, taken_more, taken_all}
use Rattle.cadence_read.proofs.packet.read_run.Goals as goal

pub returns-in_err-list-clause-refused : goal.returns-in_err-list-clause-refused
returns-in_err-list-clause-refused g c e metrics =
    let items = λ (packet : Vec ℕ g.row.A.Denot). packet.items in
    let packets = c.args.packets.now in
    let held = c.args.held.now in
    let k = c.loop-packet.packet-index in
    let here : get_or (map items packets) k [] ≡ c.deref.result.now =
    packet_at items packets k c.packet-item.result [] c.loop-packet-test.true c.packet-item.is
    ∙ sym c.deref.ensures.value in
    let is : c.from_residual-in_err-list.result ≡ Err c.in_err-list.field-0.0 = search rules in
    let fault : c.in_err-list.field-0.0 ≡ not_metrics = cc (e, is) in
    let inside : k < length (map items packets) = omega (arith, c.loop-packet-test.true, length-map packets items) in
    let before : k < length (map items packets ++ held ∷ []) = omega (arith, inside, length-append (map items packets) (held ∷ [])) in
    run_fails (map items packets ++ held ∷ []) c.in_err-list.field-0.0 c.deref.result.now k [] before
    (get_or_append_left (map items packets) (held ∷ []) [] k inside
    ∙ here) c.in_err-list.ensures fault metrics

pub loop-packet-preserved : goal.loop-packet-preserved
loop-packet-preserved g c =
    let items = λ (packet : Vec ℕ g.row.A.Denot). packet.items in
    let k = c.loop-packet.packet-index in
    let more : metrics_of c.loop-packet.metrics ++ metrics_of c.in_ok-list.list ≡ metrics_of c.append.new.self =
    sym (ap (map metric_of_owned) c.in_ok-append.ensures.items
    ∙ map-append metric_of_owned c.loop-packet.metrics.items c.in_ok-list.list.items) in
    let packets : take k (map items c.args.packets.now) ++ c.deref.result.now ∷ [] ≡ take (k + 1) (map items c.args.packets.now) =
    ap (λ p. take k (map items c.args.packets.now) ++ p ∷ []) c.deref.ensures.value
    ∙ taken_more items c.args.packets.now k c.packet-item.result c.loop-packet-test.true c.packet-item.is in
    listed_same _ _ _ _ packets more (listed_more (take k (map items c.args.packets.now)) (metrics_of c.loop-packet.metrics)
    (metrics_of c.in_ok-list.list) c.deref.result.now c.loop-packet.invariant c.in_ok-list.ensures)

pub returns-in_err-last-clause-refused : goal.returns-in_err-last-clause-refused
returns-in_err-last-clause-refused g c e metrics =
    let items = λ (packet : Vec ℕ g.row.A.Denot). packet.items in
    let packets = map items c.args.packets.now in
    let held = c.args.held.now in
    let is : c.from_residual-in_err-last.result ≡ Err c.in_err-last.field-0.0 = search rules in
    let fault : c.in_err-last.field-0.0 ≡ not_metrics = cc (e, is) in
    let before : length packets < length (packets ++ held ∷ []) = omega (arith, length-append packets (held ∷ [])) in
    run_fails (packets ++ held ∷ []) c.in_err-last.field-0.0 held (length packets) [] before (get_or-append_seam packets held [] [])
    c.in_err-last.ensures fault metrics

pub returns-clause-found : goal.returns-clause-found
returns-clause-found g c =
    let items = λ (packet : Vec ℕ g.row.A.Denot). packet.items in
    let k = c.loop-packet.packet-index in
    let more : metrics_of c.loop-packet.metrics ++ metrics_of c.in_ok-last.last ≡ metrics_of c.append-2.new.self =
    sym (ap (map metric_of_owned) c.in_ok-append-2.ensures.items
    ∙ map-append metric_of_owned c.loop-packet.metrics.items c.in_ok-last.last.items) in
    let packets : take k (map items c.args.packets.now) ++ c.args.held.now ∷ [] ≡ map items c.args.packets.now ++ c.args.held.now ∷ [] =
    ap (λ ps. ps ++ c.args.held.now ∷ []) (taken_all items c.args.packets.now k c.loop-packet-test.false) in
    listed_same _ _ _ _ packets more (listed_more (take k (map items c.args.packets.now)) (metrics_of c.loop-packet.metrics)
    (metrics_of c.in_ok-last.last) c.args.held.now c.loop-packet.invariant c.in_ok-last.ensures)

pub returns-clause-only : goal.returns-clause-only
returns-clause-only g c others h =
    let items = λ (packet : Vec ℕ g.row.A.Denot). packet.items in
    run_once (map items c.args.packets.now ++ c.args.held.now ∷ []) (metrics_of c.append-2.new.self) others (returns-clause-found g c) h
