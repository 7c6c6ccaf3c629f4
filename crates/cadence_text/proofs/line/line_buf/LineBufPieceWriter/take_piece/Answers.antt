use Rattle.std.proofs.Common.{◌≡◌, ◌++◌, rules}
use Rattle.cadence_text.proofs.writing.WriterEnds.{utf8_more}
use Rattle.cadence_text.proofs.line.line_buf.LineBufPieceWriter.take_piece.Goals as goal

pub invariant_of-self : goal.invariant_of-self
invariant_of-self g c =
    let old = c.args.self.now.bytes.items in
    let more = c.as_bytes.result.now in
    let new = c.extend_from_slice.new.self.items in
    let items : new ≡ old ++ more = search rules in
    record { utf8 = utf8_more old more new c.args.self.now.utf8 c.as_bytes.ensures.utf8 items; within = search rules }
