use Rattle.std.proofs.Common.{◌≡◌, ◌∙◌, ap, false, rules, sym}
use Rattle.std.specs.List.{list_all}
use Rattle.std.proofs.lemmas.List.{take_all}
use Rattle.std.proofs.lemmas.List.Folds.{list_all-map, list_all_at}
use Rattle.cadence_text.specs.Owned.{tag_of_owned}
use Rattle.cadence_text.specs.FreeTexts.{is_clear_tag}
use Rattle.cadence_settings.proofs.settings.strict.own_tags_are_clear.Goals as goal

pub returns-then-not-tag_is_clear : goal.returns-then-not-tag_is_clear
returns-then-not-tag_is_clear g c =
    let tags = c.args.tags.now in
    let one = c.owned-item.result in
    let unfree : is_clear_tag (tag_of_owned one) ≡ false = search rules in
    sym (list_all-map is_clear_tag tag_of_owned tags
    ∙ list_all_at (λ tag. is_clear_tag (tag_of_owned tag)) tags c.loop-owned.owned-index one c.loop-owned-test.true
    (ap (λ tag. is_clear_tag (tag_of_owned tag)) (sym c.owned-item.is) ∙ unfree))

pub returns : goal.returns
returns g c =
    let tags = c.args.tags.now in
    sym (list_all-map is_clear_tag tag_of_owned tags
    ∙ (sym (ap (list_all (λ tag. is_clear_tag (tag_of_owned tag))) (take_all c.loop-owned.owned-index tags c.loop-owned-test.false))
    ∙ c.loop-owned.invariant))
