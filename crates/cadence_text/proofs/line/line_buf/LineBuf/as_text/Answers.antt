use Rattle.std.proofs.Common.{subst, sym}
use Rattle.std.specs.Str.{IsUtf8}
use Rattle.std.proofs.lemmas.Str.{IsUtf8-had}
use Rattle.cadence_text.proofs.line.line_buf.LineBuf.as_text.Goals as goal

pub from_utf8_unchecked-requires : goal.from_utf8_unchecked-requires
from_utf8_unchecked-requires g c = subst IsUtf8 (sym c.as_slice.ensures.value) (IsUtf8-had _ c.args.self.now.utf8)
