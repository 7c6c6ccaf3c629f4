use Rattle.std.proofs.Common.{◌∙◌, ap, ap₂, map, take}
use Rattle.std.proofs.lemmas.List.{take_all}
use Rattle.cadence_text.specs.Cleaned.{tag_as}
use Rattle.cadence_text.specs.Draft.{tags_text_with}
use Rattle.cadence_text.specs.Metric.{Tag}
use Rattle.cadence_text.specs.Line.{tags_field}
use Rattle.cadence_text.proofs.writing.DraftText.{added_tag}
use Rattle.cadence_host.specs.Calls.{c_tag_as}
use Rattle.cadence_host.proofs.Lines.{tags_more}
use Rattle.cadence_c.proofs.texts.text_of_tags.Goals as goal

pub loop-tag-preserved : goal.loop-tag-preserved
loop-tag-preserved c =
    let tags = c.args.tags.now in
    let i = c.loop-tag.tag-index in
    let cleaned = c.args.is_cleaned in
    c.in_ok-add.ensures.ok
    ∙ ap₂ (λ t (g : Tag). tags_text_with t (tag_as cleaned g)) c.loop-tag.invariant c.known_tag.ensures
    ∙ added_tag (map (c_tag_as cleaned) (take i tags)) _ ∙ ap tags_field (tags_more (c_tag_as cleaned) tags i _ c.loop-tag-test.true)

pub returns : goal.returns
returns c = c.loop-tag.invariant ∙ ap (λ ts. tags_field (map (c_tag_as c.args.is_cleaned) ts)) (take_all c.loop-tag.tag-index c.args.tags.now c.loop-tag-test.false)
