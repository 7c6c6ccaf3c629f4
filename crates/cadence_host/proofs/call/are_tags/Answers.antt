use Rattle.std.proofs.Common.{List, subst}
use Rattle.std.proofs.lemmas.List.{take_all}
use Rattle.std.proofs.lemmas.List.Elements.{All-more}
use Rattle.std.specs.List.{All}
use Rattle.cadence_host.specs.Calls.{IsUtf8Tag}
use Rattle.cadence_host.specs.declared.call.CTag.{CTag}
use Rattle.cadence_host.proofs.call.are_tags.Goals as goal

pub loop-tag-preserved : goal.loop-tag-preserved
loop-tag-preserved c =
    All-more IsUtf8Tag c.args.tags.now c.loop-tag.tag-index _ c.loop-tag-test.true c.loop-tag.invariant (c.is_tag.ensures.yes c.if-not-is_tag.false)

pub returns-clause-yes : goal.returns-clause-yes
returns-clause-yes c said =
    subst (λ (tags : List CTag). All IsUtf8Tag tags) (take_all c.loop-tag.tag-index c.args.tags.now c.loop-tag-test.false) c.loop-tag.invariant
