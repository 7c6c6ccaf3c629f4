use Rattle.std.proofs.lemmas.Str.{IsUtf8-had}
use Rattle.cadence_text.proofs.line.line_buf.LineBuf.into_text.Goals as goal

pub from_utf8_unchecked-requires : goal.from_utf8_unchecked-requires
from_utf8_unchecked-requires g c = IsUtf8-had _ c.args.self.utf8
