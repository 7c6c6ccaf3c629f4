use Rattle.std.proofs.Common.{◌++◌, codes, map, take}
use Rattle.std.specs.List.{flat_map}
use Rattle.cadence_text.specs.Cleaned.{tag_as}
use Rattle.cadence_text.specs.Line.{tag_text}
use Rattle.cadence_text.specs.Record.{tag_of}
use Rattle.cadence_value.specs.Takes.{Takes}
use Rattle.cadence_events.proofs.fields.push_tags.Given as goal

-- The line has the tags that follow the first one, each after a comma, as far as the loop has come.
abbrev pub invariant-loop-tag : goal.invariant-loop-tag
invariant-loop-tag g l = Takes g.S.ByteWriter.ends_as l.initial.line (flat_map (λ tag. codes "," ++ tag_text tag) (map (tag_as l.fn.is_cleaned) (map tag_of (take l.tag-index l.others)))) l.line
