use Rattle.std.proofs.Common.{◌≡◌, ◌++◌, All, length, map}
use Rattle.std.specs.Option.{option_copied}
use Rattle.cadence_text.specs.Line.{line_of}
use Rattle.cadence_text.specs.Owned.{metric_of_owned}
use Rattle.cadence_read.specs.Listed.{IsListed}
use Rattle.cadence_read.specs.LineTexts.{pieces_left}
use Rattle.cadence_read.proofs.Pieces.{pieces}
use Rattle.cadence_read.proofs.packet.read_lines.Given as goal

abbrev pub decreases-loop-left : goal.decreases-loop-left
decreases-loop-left g l = length (pieces_left 10 (option_copied l.left))

abbrev pub invariant-loop-left : goal.invariant-loop-left
invariant-loop-left g l = record {
  read : map line_of (map metric_of_owned l.metrics.items) ++ pieces_left 10 (option_copied l.left) ≡ pieces 10 l.fn.lines;
  good : All IsListed (map metric_of_owned l.metrics.items);
}
