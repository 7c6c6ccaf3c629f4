use Rattle.std.proofs.Common.{◌++◌, codes, map, take}
use Rattle.std.specs.List.{All, flat_map}
use Rattle.cadence_text.specs.Line.{tag_text}
use Rattle.cadence_text.specs.Record.{tag_of}
use Rattle.cadence_text.specs.MetricInMemory.{IsTagInMemory}
use Rattle.cadence_value.specs.Takes.{Takes}
use Rattle.cadence_text.proofs.line.pieces.line_with_tags.Given as goal

abbrev pub invariant-loop-tag : goal.invariant-loop-tag
invariant-loop-tag g l = record {
  taken : Takes g.S.ByteWriter.ends_as l.initial.line (flat_map (λ tag. codes "," ++ tag_text tag) (map tag_of (take l.tag-index l.others))) l.line;
  sized : All (λ tag. IsTagInMemory (tag_of tag)) (take l.tag-index l.others);
}
