use Rattle.std.proofs.Common.{◌≡◌, map, take}
use Rattle.cadence_text.specs.Owned.{tag_of_owned}
use Rattle.cadence_text.specs.Record.{tag_of}
use Rattle.cadence_text.proofs.line.tag.lend_tags.Given as goal

abbrev pub invariant-loop-tag : goal.invariant-loop-tag
invariant-loop-tag g l = map tag_of l.lent.items ≡ map tag_of_owned (take l.tag-index l.tags)
