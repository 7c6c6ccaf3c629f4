use Rattle.std.proofs.Common.{◌≡◌, map, take}
use Rattle.cadence_text.specs.Line.{tags_field}
use Rattle.cadence_text.specs.Owned.{tag_of_owned}
use Rattle.cadence_c.proofs.environment.text_of_owned.Given as goal

-- The text has the first tags.
abbrev pub invariant-loop-tag : goal.invariant-loop-tag
invariant-loop-tag l = l.text ≡ tags_field (map tag_of_owned (take l.tag-index l.tags))
