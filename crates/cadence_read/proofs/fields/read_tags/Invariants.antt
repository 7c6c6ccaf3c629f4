use Rattle.std.proofs.Common.{◌≡◌, ◌++◌, All, length, map}
use Rattle.std.specs.Option.{option_copied}
use Rattle.cadence_text.specs.Line.{tag_text}
use Rattle.cadence_text.specs.Owned.{tag_of_owned}
use Rattle.cadence_read.specs.Listed.{IsListedTag}
use Rattle.cadence_read.specs.LineTexts.{pieces_left}
use Rattle.cadence_read.proofs.fields.read_tags.Given as goal

abbrev pub decreases-loop-left : goal.decreases-loop-left
decreases-loop-left g l = length (pieces_left 44 (option_copied l.left))

abbrev pub invariant-loop-left : goal.invariant-loop-left
invariant-loop-left g l = record {
  read : map tag_text (map tag_of_owned l.tags.items) ++ pieces_left 44 (option_copied l.left) ≡ pieces_left 44 (option_copied l.fn.text);
  good : All IsListedTag (map tag_of_owned l.tags.items);
}
