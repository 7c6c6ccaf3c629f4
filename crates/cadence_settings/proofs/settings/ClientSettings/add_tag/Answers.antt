use Rattle.std.proofs.Common.{◌≡◌, List, [], ◌∷◌, ◌++◌, map, ap, ◌∙◌, subst, sym}
use Rattle.std.proofs.lemmas.List.{map-append}
use Rattle.std.specs.Option.{option_copied}
use Rattle.cadence_text.specs.Cleaned.{tag_as}
use Rattle.cadence_text.specs.Metric.{Tag}
use Rattle.cadence_text.proofs.writing.DraftText.{added_tag}
use Rattle.cadence_text.specs.Owned.{tag_of_owned}
use Rattle.std.specs.Prelude.{IsTrue}
use Rattle.cadence_text.specs.Line.{tags_field}
use Rattle.cadence_settings.proofs.calls.FreeTexts.{clear_with_tag, kept_clear}
use Rattle.cadence_settings.specs.Settings.{Settings, allows_tag, is_clear_settings, with_default_tag}
use Rattle.cadence_settings.specs.SettingsParts.{settings_seen}
use Rattle.cadence_settings.proofs.settings.ClientSettings.add_tag.Goals as goal

pub invariant_of-self-2 : goal.invariant_of-self-2
invariant_of-self-2 g c =
    let inside = c.self.inside in
    let tags = inside.tags.items in
    let tag = c.in_ok-tag.tag in
    let asked : Tag = record { key = option_copied c.args.key; text = c.args.text.now } in
    let given = tag_as inside.cleaned asked in
    let same : tag_of_owned tag ≡ given = c.in_ok-tag.ensures ∙ ap (λ (s : Settings). tag_as s.cleaned asked) (sym c.self.view_is) in
    let allowed : IsTrue (allows_tag c.args.self.now asked) = sym c.allows_tag.ensures
    ∙ c.if-not-allows_tag.false in
    let items : map tag_of_owned c.push_reserved.new.self.items ≡ map tag_of_owned tags ++ given ∷ [] =
    cc (
      map-append tag_of_owned tags (tag ∷ []),
      same,
      c.in_ok-reserve.ensures.items,
      c.push_reserved.ensures.items,
    ) in
    let text : c.add.new.self ≡ tags_field (map tag_of_owned c.push_reserved.new.self.items) =
    cc (
      added_tag (map tag_of_owned tags) (tag_of_owned tag),
      map-append tag_of_owned tags (tag ∷ []),
      c.self.invariant.text,
      c.in_ok-add.ensures.ok,
      c.in_ok-reserve.ensures.items,
      c.push_reserved.ensures.items,
    ) in
    record {
      text = text;
      external = c.self.invariant.external;
      clear = λ either. subst (λ (l : List Tag). IsTrue (is_clear_settings (record (settings_seen inside) { tags = l }))) (sym items)
          (clear_with_tag (settings_seen inside) given (c.self.invariant.clear either)
          (kept_clear c.cleaned_texts_are_clear.ensures (settings_seen inside) asked either
          (subst (λ (s : Settings). IsTrue (allows_tag s asked)) (sym c.self.view_is) allowed)));
    }

pub returns-clause-ok : goal.returns-clause-ok
returns-clause-ok g c =
    let inside = c.self.inside in
    let tag = c.in_ok-tag.tag in
    let asked : Tag = record { key = option_copied c.args.key; text = c.args.text.now } in
    let given = tag_as inside.cleaned asked in
    let same : tag_of_owned tag ≡ given = c.in_ok-tag.ensures ∙ ap (λ (s : Settings). tag_as s.cleaned asked) (sym c.self.view_is) in
    let before = map tag_of_owned inside.tags.items in
    let tags : map tag_of_owned c.push_reserved.new.self.items ≡ before ++ given ∷ [] =
    cc (
      map-append tag_of_owned inside.tags.items (tag ∷ []),
      c.in_ok-reserve.ensures.items,
      c.push_reserved.ensures.items,
    ) in
    ap (λ (l : List Tag). record (settings_seen inside) { tags = l }) tags
    ∙ ap (λ (s : Settings). with_default_tag s asked) c.self.view_is
