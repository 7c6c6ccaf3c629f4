use Rattle.std.proofs.Common.{◌∙◌, ap, sym}
use Rattle.std.specs.List.{list_all}
use Rattle.std.proofs.lemmas.List.{take_all}
use Rattle.std.proofs.lemmas.List.Folds.{list_all-map, list_all_at}
use Rattle.cadence_text.specs.FreeTexts.{is_clear_tag}
use Rattle.cadence_host.specs.Calls.{c_tag}
use Rattle.cadence_host.proofs.call.are_clear_tags.Goals as goal

pub returns-then-not-tag_is_clear : goal.returns-then-not-tag_is_clear
returns-then-not-tag_is_clear c =
    sym (list_all-map is_clear_tag c_tag c.args.tags.now
    ∙ list_all_at (λ tag. is_clear_tag (c_tag tag)) c.args.tags.now c.loop-tag.tag-index _ c.loop-tag-test.true
    (ap is_clear_tag (sym c.known_tag-tag.ensures) ∙ (sym c.tag_is_clear.ensures ∙ c.if-not-tag_is_clear.true)))

pub returns : goal.returns
returns c =
    sym (list_all-map is_clear_tag c_tag c.args.tags.now
    ∙ (sym (ap (list_all (λ tag. is_clear_tag (c_tag tag))) (take_all c.loop-tag.tag-index c.args.tags.now c.loop-tag-test.false))
    ∙ c.loop-tag.invariant))
