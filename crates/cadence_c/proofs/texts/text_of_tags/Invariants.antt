use Rattle.std.proofs.Common.{◌≡◌, map, take}
use Rattle.cadence_text.specs.Line.{tags_field}
use Rattle.cadence_host.specs.Calls.{c_tag_as}
use Rattle.cadence_c.proofs.texts.text_of_tags.Given as goal

abbrev pub invariant-loop-tag : goal.invariant-loop-tag
invariant-loop-tag l = l.text ≡ tags_field (map (c_tag_as l.is_cleaned) (take l.tag-index l.tags))
