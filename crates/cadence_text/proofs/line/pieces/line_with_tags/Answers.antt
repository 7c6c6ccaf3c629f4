use Rattle.std.proofs.Common.{◌≡◌, ◌∷◌, arith, rules}
use Rattle.std.proofs.lemmas.Grind.{common_steps}
use Rattle.std.proofs.lemmas.List.{length-map}
use Rattle.std.proofs.lemmas.List.Elements.{All-more}
use Rattle.cadence_text.specs.Record.{tag_of}
use Rattle.cadence_text.specs.MetricInMemory.{IsTagInMemory}
use Rattle.cadence_value.proofs.lists.LoopElements.{All-split}
use Rattle.cadence_text.proofs.line.pieces.line_with_tags.Goals as goal

pub loop-tag-preserved : goal.loop-tag-preserved
loop-tag-preserved g c =
    record {
      taken = grind (arith, common_steps);
      sized =
          All-more (λ tag. IsTagInMemory (tag_of tag)) c.in-Some.others.now c.loop-tag.tag-index _ c.loop-tag-test.true
          c.loop-tag.invariant.sized c.push_tag-in-loop-tag.ensures.sized;
    }

pub returns-clause-sized : goal.returns-clause-sized
returns-clause-sized g c =
    let split : c.args.tags.now ≡ c.in-Some.first.now ∷ c.in-Some.others.now = search rules in
    record {
      each =
          All-split IsTagInMemory tag_of c.args.tags.now c.in-Some.first.now c.in-Some.others.now c.loop-tag.tag-index split
          c.push_tag.ensures.sized c.loop-tag-test.false c.loop-tag.invariant.sized;
      few = omega (arith, length-map c.args.tags.now tag_of);
    }
