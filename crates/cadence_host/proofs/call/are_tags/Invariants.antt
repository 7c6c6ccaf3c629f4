use Rattle.std.proofs.Common.{take}
use Rattle.std.specs.List.{All}
use Rattle.cadence_host.specs.Calls.{IsUtf8Tag}
use Rattle.cadence_host.proofs.call.are_tags.Given as goal

-- The texts of the first tags are UTF-8.
abbrev pub invariant-loop-tag : goal.invariant-loop-tag
invariant-loop-tag l = All IsUtf8Tag (take l.tag-index l.tags)
