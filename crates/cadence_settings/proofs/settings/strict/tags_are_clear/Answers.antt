use Rattle.std.proofs.Common.{◌∙◌, ap, sym}
use Rattle.std.specs.List.{list_all}
use Rattle.std.proofs.lemmas.List.{take_all}
use Rattle.std.proofs.lemmas.List.Folds.{list_all-map, list_all_at}
use Rattle.cadence_text.specs.FreeTexts.{is_clear_tag}
use Rattle.cadence_text.specs.Record.{tag_of}
use Rattle.cadence_settings.proofs.settings.strict.tags_are_clear.Goals as goal

pub returns-then-not-is_clear : goal.returns-then-not-is_clear
returns-then-not-is_clear c =
    let tags = c.args.tags.now in
    sym (list_all-map is_clear_tag tag_of tags
    ∙ list_all_at (λ tag. is_clear_tag (tag_of tag)) tags c.loop-tag.tag-index _ c.loop-tag-test.true (sym c.is_clear.ensures ∙ c.if-not-is_clear.true))

pub returns : goal.returns
returns c =
    let tags = c.args.tags.now in
    sym (list_all-map is_clear_tag tag_of tags
    ∙ (sym (ap (list_all (λ tag. is_clear_tag (tag_of tag))) (take_all c.loop-tag.tag-index tags c.loop-tag-test.false))
    ∙ c.loop-tag.invariant))
