use Rattle.std.proofs.Common.{sym, subst}
use Rattle.cadence_text.specs.Line.{line_of}
use Rattle.cadence_text.specs.Owned.{metric_of_owned}
use Rattle.cadence_read.specs.Listed.{IsListed}
use Rattle.cadence_read.specs.Reads.{ReadsOrFails}
use Rattle.cadence_read.proofs.LineParts.{line_named}
use Rattle.cadence_read.proofs.line.read_line.Goals as goal

pub returns-in_default : goal.returns-in_default
returns-in_default g c m (good, e) = c.in_default.ensures.none m.name _ good.free.name (line_named m c.args.line.now good e)

pub returns : goal.returns
returns g c =
    subst (λ line. ReadsOrFails IsListed line_of line metric_of_owned c.read_named.result) (sym c.in-Some.ensures.whole) c.read_named.ensures
