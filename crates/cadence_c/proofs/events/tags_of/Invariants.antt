use Rattle.std.proofs.Common.{◌≡◌, map, take}
use Rattle.cadence_text.specs.Record.{tag_of}
use Rattle.cadence_host.specs.Calls.{c_tag}
use Rattle.cadence_c.proofs.events.tags_of.Given as goal

-- The list has the first tags.
abbrev pub invariant-loop-tag : goal.invariant-loop-tag
invariant-loop-tag l = map tag_of l.made.items ≡ map c_tag (take l.tag-index l.tags)
