use Rattle.cadence_read.proofs.OwnLines.{cut_once, own_cut, own_is_other}
use Rattle.cadence_read.proofs.any_line.cuts_own_lines.Goals as goal

pub returns : goal.returns
returns c = record { once = cut_once; other = own_is_other; own = own_cut }
