use Rattle.std.proofs.Common.{◌∙◌, ap, take, true}
use Rattle.std.proofs.lemmas.List.{take_all}
use Rattle.cadence_text.proofs.writing.DraftText.{tagged_draft}
use Rattle.cadence_text.specs.Cleaned.{tag_as}
use Rattle.cadence_text.specs.Draft.{Draft, draft_with, with_tag_text}
use Rattle.cadence_text.specs.Metric.{with_tag}
use Rattle.cadence_text.specs.Record.{tag_of}
use Rattle.cadence_host.specs.Calls.{with_c_tags}
use Rattle.cadence_host.proofs.Lines.{one_tag_more}
use Rattle.cadence_host.proofs.line.add_cleaned_tags.Goals as goal

pub loop-tag-preserved : goal.loop-tag-preserved
loop-tag-preserved c m value is =
    let tags = c.args.tags.now in
    let i = c.loop-tag.tag-index in
    let cleaned = true in
    let first = with_c_tags cleaned m (take i tags) in
    let tag = tag_as cleaned (tag_of c.known_tag.result) in
    c.in_ok-add_tag_as.ensures.ok
    ∙ ap (λ (d : Draft). with_tag_text d tag) (c.loop-tag.invariant m value is)
    ∙ tagged_draft value first tag
    ∙ ap (λ t. draft_with value (with_tag first (tag_as cleaned t))) c.known_tag.ensures
    ∙ ap (draft_with value) (one_tag_more cleaned m tags i _ c.loop-tag-test.true)

pub returns : goal.returns
returns c m value is =
    c.loop-tag.invariant m value is
    ∙ ap (λ ts. draft_with value (with_c_tags true m ts)) (take_all c.loop-tag.tag-index c.args.tags.now c.loop-tag-test.false)
