use Rattle.std.proofs.Common.{◌+◌, ◌∙◌, ap, map, take}
use Rattle.std.specs.List.{fold}
use Rattle.std.proofs.lemmas.List.{take_all, take_more}
use Rattle.cadence_settings.specs.Call.{chosen}
use Rattle.cadence_settings.proofs.calls.CallOptions.{chosen_more}
use Rattle.cadence_text.specs.Draft.{draft_of}
use Rattle.cadence_text.specs.Record.{tag_of}
use Rattle.cadence_aggregating.specs.Contexts.{sent_tag}
use Rattle.cadence_aggregating.proofs.Keyed.{mapped_twice}
use Rattle.cadence_aggregating.proofs.keys.add_tags.Goals as goal

pub loop-tag-preserved : goal.loop-tag-preserved
loop-tag-preserved c = λ m is.
    let i = c.loop-tag.tag-index in
    let tags = c.args.tags.now in
    c.in_ok-add_tag_as.ensures.metric (fold chosen m (map (λ tag. sent_tag c.args.is_cleaned (tag_of tag)) (take i tags))) (c.loop-tag.invariant m is)
    ∙ ap draft_of (chosen_more (λ tag. sent_tag c.args.is_cleaned (tag_of tag)) m (take i tags) (take (i + 1) tags) _
    (take_more tags i _ c.loop-tag-test.true))

pub returns : goal.returns
returns c = λ m is.
    let tags = c.args.tags.now in
    c.loop-tag.invariant m is
    ∙ ap (λ ts. draft_of (fold chosen m (map (λ tag. sent_tag c.args.is_cleaned (tag_of tag)) ts))) (take_all c.loop-tag.tag-index tags c.loop-tag-test.false)
    ∙ ap (λ cs. draft_of (fold chosen m cs)) (mapped_twice (sent_tag c.args.is_cleaned) tag_of tags)
