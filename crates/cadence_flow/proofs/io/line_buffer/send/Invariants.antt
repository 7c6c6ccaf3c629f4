use Rattle.std.proofs.Common.{◌≡◌, ◌-◌, length}
use Rattle.cadence_flow.proofs.OfferedText.{OfferedSoFar}
use Rattle.cadence_flow.proofs.SentText.{SentSoFar}
use Rattle.cadence_flow.proofs.io.line_buffer.send.Given as goal

abbrev pub invariant-loop-sent : goal.invariant-loop-sent
invariant-loop-sent g l =
    let history = g.T.PacketWriter.history in
    let kind = g.T.PacketWriter.kind in
    let offers = g.T.PacketWriter.offers in
    record {
      same_kind : kind l.to ≡ kind l.fn.to;
      so_far : SentSoFar (kind l.fn.to) (history l.fn.to) (history l.to) l.bytes l.sent;
      offered : OfferedSoFar (offers l.fn.to) (offers l.to) (length l.bytes) l.sent;
    }

abbrev pub decreases-loop-sent : goal.decreases-loop-sent
decreases-loop-sent g l = length l.bytes - l.sent
