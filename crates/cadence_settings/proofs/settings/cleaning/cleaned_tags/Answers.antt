use Rattle.std.proofs.Common.{◌≡◌, ◌∙◌, ◌+◌, ◌++◌, ◌∷◌, [], List, ap, ap₂, map, sym, take}
use Rattle.std.proofs.lemmas.List.{map-append, take_all, take_more}
use Rattle.cadence_text.specs.Cleaned.{cleaned_tag}
use Rattle.cadence_text.specs.Draft.{tags_text_with}
use Rattle.cadence_text.specs.Line.{tags_field}
use Rattle.cadence_text.specs.Metric.{Tag}
use Rattle.cadence_text.proofs.writing.DraftText.{added_tag}
use Rattle.cadence_text.specs.Owned.{tag_of_owned}
use Rattle.cadence_settings.proofs.calls.KeptTexts.{tag_added}
use Rattle.cadence_settings.proofs.settings.cleaning.cleaned_tags.Goals as goal

pub loop-tag-preserved : goal.loop-tag-preserved
loop-tag-preserved g c =
    let tags = c.args.tags.now in
    let i = c.loop-tag.tag-index in
    let one = c.tag-item.result in
    let made = c.loop-tag.made.items in
    let cleaned = c.in_ok-cleaned.cleaned in
    let more : take (i + 1) tags ≡ take i tags ++ one ∷ [] =
    take_more tags i one c.loop-tag-test.true ∙ ap (λ o. take i tags ++ o ∷ []) (sym c.tag-item.is) in
    let text : c.add.new.self ≡ tags_text_with (tags_field (map tag_of_owned made)) (tag_of_owned cleaned) =
    c.in_ok-add.ensures.ok ∙ ap₂ (λ t (k : Tag). tags_text_with t k) c.loop-tag.invariant.text c.lend_tag.ensures in
    record {
      tags = tag_added made c.push.new.self.items (take i tags) (take (i + 1) tags) cleaned one c.in_ok-push.ensures.items more
          c.in_ok-cleaned.ensures c.loop-tag.invariant.tags;
      text = text ∙ added_tag (map tag_of_owned made) (tag_of_owned cleaned)
          ∙ ap tags_field (sym (ap (map tag_of_owned) c.in_ok-push.ensures.items ∙ map-append tag_of_owned made (cleaned ∷ [])));
    }

pub returns-clause-tags : goal.returns-clause-tags
returns-clause-tags g c =
    c.loop-tag.invariant.tags
    ∙ ap (λ (ts : List _). map cleaned_tag (map tag_of_owned ts)) (take_all c.loop-tag.tag-index c.args.tags.now c.loop-tag-test.false)
