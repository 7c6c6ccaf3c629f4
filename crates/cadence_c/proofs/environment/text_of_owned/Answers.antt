use Rattle.std.proofs.Common.{◌∙◌, ap, ap₂, map, take}
use Rattle.std.proofs.lemmas.List.{take_all}
use Rattle.cadence_text.specs.Draft.{tags_text_with}
use Rattle.cadence_text.specs.Line.{tags_field}
use Rattle.cadence_text.proofs.writing.DraftText.{added_tag}
use Rattle.cadence_text.specs.Owned.{tag_of_owned}
use Rattle.cadence_host.proofs.Lines.{tags_more}
use Rattle.cadence_c.proofs.environment.text_of_owned.Goals as goal

pub loop-tag-preserved : goal.loop-tag-preserved
loop-tag-preserved c =
    let tags = c.args.tags.now in
    let i = c.loop-tag.tag-index in
    c.in_ok-add.ensures.ok ∙ ap₂ (λ t g. tags_text_with t g) c.loop-tag.invariant (c.lend_tag.ensures ∙ ap tag_of_owned c.tag-item.is)
    ∙ added_tag (map tag_of_owned (take i tags)) _ ∙ ap tags_field (tags_more tag_of_owned tags i _ c.loop-tag-test.true)

pub returns : goal.returns
returns c = c.loop-tag.invariant ∙ ap (λ ts. tags_field (map tag_of_owned ts)) (take_all c.loop-tag.tag-index c.args.tags.now c.loop-tag-test.false)
