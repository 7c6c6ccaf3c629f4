use Rattle.std.proofs.Common.{◌∷◌, [], rules}
use Rattle.cadence_text.proofs.writing.WriterEnds.{utf8_byte, utf8_more}
use Rattle.cadence_text.proofs.line.line_buf.LineBufByteWriter.take_byte.Goals as goal

pub invariant_of-self : goal.invariant_of-self
invariant_of-self g c =
    record {
      utf8 =
          utf8_more c.args.self.now.bytes.items (c.args.byte ∷ []) c.push_reserved.new.self.items c.args.self.now.utf8
          (utf8_byte c.args.byte c.requires) c.push_reserved.ensures.items;
      within = search rules;
    }
