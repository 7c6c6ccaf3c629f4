use Rattle.std.proofs.Common.{length, length-drop, take, ap, ◌∙◌, arith, rules, ℕ, List}
use Rattle.cadence_flow.specs.Writer.{after_packet, WriterKind}
use Rattle.cadence_flow.proofs.OfferedText.{offered_more, offered_nothing}
use Rattle.cadence_flow.proofs.SentText.{SentSoFar-more, rest_is}
use Rattle.cadence_flow.proofs.io.line_buffer.send.Goals as goal

pub loop-sent-preserved : goal.loop-sent-preserved
loop-sent-preserved g c =
    let so_far = c.loop-sent.invariant in
    let xs = c.args.bytes.now in
    let sent = c.loop-sent.sent in
    let h = c.in-Some.ensures in
    let rest = rest_is xs sent in
    let reports = ap (λ (k : WriterKind). k.reports) so_far.same_kind in
    let whole = ap (λ (k : WriterKind). k.takes_whole) so_far.same_kind in
    record {
      same_kind = h.same_kind ∙ so_far.same_kind;
      so_far =
          SentSoFar-more _ _ _ _ xs sent c.in-Some.n so_far.so_far c.loop-sent-test.true (omega (arith, c.in-Some.n-test.1))
          (rw rest at h.writes.count) (λ w. h.writes.whole (whole
          ∙ w)
          ∙ ap length rest) (λ t. h.writes.taken (reports ∙ t)
          ∙ ap (λ (l : List ℕ). after_packet (g.T.PacketWriter.history c.loop-sent.to) (take c.in-Some.n l)) rest) h.writes.kept;
      offered = offered_more _ _ _ _ (length xs) sent c.in-Some.n c.loop-sent.invariant.offered c.loop-sent-test.true (ap length rest
          ∙ length-drop sent xs) h.offers;
    }

pub returns-in-Some-eq0-clause-offers : goal.returns-in-Some-eq0-clause-offers
returns-in-Some-eq0-clause-offers g c some =
    let xs = c.args.bytes.now in
    let sent = c.loop-sent.sent in
    offered_nothing _ _ _ _ (length xs) sent c.in-Some-eq0.field-0 c.loop-sent.invariant.offered c.loop-sent-test.true (ap length (rest_is xs sent)
    ∙ length-drop sent xs) (search rules) c.in-Some-eq0.ensures.offers
