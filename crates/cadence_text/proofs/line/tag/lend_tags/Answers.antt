use Rattle.std.proofs.Common.{rules, ◌≡◌, ◌∷◌, [], ◌++◌, ap, ◌∙◌, map}
use Rattle.cadence_text.specs.Owned.{tag_of_owned}
use Rattle.cadence_text.specs.Record.{tag_of}
use Rattle.cadence_text.proofs.writing.ConvertedLists.{mapped_more, mapped_all}
use Rattle.cadence_text.proofs.line.tag.lend_tags.Goals as goal

pub loop-tag-preserved : goal.loop-tag-preserved
loop-tag-preserved g c =
    let tag = c.lend_tag.result in
    let more : c.push.new.self.items ≡ c.loop-tag.lent.items ++ tag ∷ [] = search rules in
    let one : tag_of tag ≡ tag_of_owned c.tag-item.result = c.lend_tag.ensures in
    ap (map tag_of) more
    ∙ mapped_more tag_of tag_of_owned c.loop-tag.lent.items tag c.args.tags.now c.loop-tag.tag-index c.tag-item.result
    c.loop-tag-test.true c.tag-item.is c.loop-tag.invariant one

pub returns : goal.returns
returns g c = mapped_all tag_of tag_of_owned c.loop-tag.lent.items c.args.tags.now c.loop-tag.tag-index c.loop-tag-test.false c.loop-tag.invariant
