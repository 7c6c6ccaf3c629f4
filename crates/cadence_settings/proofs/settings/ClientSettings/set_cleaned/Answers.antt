use Rattle.std.proofs.Common.{◌≡◌, ◌∙◌, List, ap, map, rules, string_bytes, subst, sym, true, false}
use Rattle.std.specs.Option.{option_map}
use Rattle.std.specs.Prelude.{IsTrue}
use Rattle.cadence_text.specs.Cleaned.{cleaned_tag, cleaned_text, container_as}
use Rattle.cadence_text.specs.Owned.{tag_of_owned}
use Rattle.cadence_settings.specs.Settings.{Settings, is_clear_settings, with_cleaned_texts}
use Rattle.cadence_settings.specs.SettingsParts.{settings_seen}
use Rattle.cadence_settings.proofs.calls.FreeTexts.{cleaned_settings_clear}
use Rattle.cadence_settings.proofs.settings.ClientSettings.set_cleaned.Goals as goal

pub invariant_of-self : goal.invariant_of-self
invariant_of-self g c =
    let inside = c.self.inside in
    let s = settings_seen inside in
    let prefix : string_bytes c.in_ok-prefix.prefix ≡ cleaned_text false s.prefix = search rules in
    let tags : map tag_of_owned c.in_ok-tags.tags.items ≡ map cleaned_tag s.tags =
    c.in_ok-tags.ensures.tags ∙ ap (λ (ts : List _). map cleaned_tag (map tag_of_owned ts)) c.deref-2.ensures.value in
    let container : option_map string_bytes c.in_ok-container.container ≡ container_as true s.container =
    c.in_ok-container.ensures ∙ ap (container_as true) (c.default_container.ensures ∙ ap (λ (t : Settings). t.container) (sym c.self.view_is)) in
    let made : with_cleaned_texts s ≡ record {
      prefix = string_bytes c.in_ok-prefix.prefix;
      tags = map tag_of_owned c.in_ok-tags.tags.items;
      container = option_map string_bytes c.in_ok-container.container;
      enrichment = s.enrichment;
      strict = false;
      cleaned = true;
    } = λ i. record { prefix = sym prefix i; tags = sym tags i; container = sym container i; enrichment = s.enrichment; strict = false; cleaned = true } in
    record {
      text = c.in_ok-tags.ensures.text;
      external = c.self.invariant.external;
      clear = λ either. subst (λ (t : Settings). IsTrue (is_clear_settings t)) made (cleaned_settings_clear c.cleaned_texts_are_clear.ensures s c.self.invariant.external);
    }

pub returns-clause-ok : goal.returns-clause-ok
returns-clause-ok g c =
    let inside = c.self.inside in
    let s = settings_seen inside in
    let prefix : string_bytes c.in_ok-prefix.prefix ≡ cleaned_text false s.prefix = search rules in
    let tags : map tag_of_owned c.in_ok-tags.tags.items ≡ map cleaned_tag s.tags =
    c.in_ok-tags.ensures.tags ∙ ap (λ (ts : List _). map cleaned_tag (map tag_of_owned ts)) c.deref-2.ensures.value in
    let container : option_map string_bytes c.in_ok-container.container ≡ container_as true s.container =
    c.in_ok-container.ensures ∙ ap (container_as true) (c.default_container.ensures ∙ ap (λ (t : Settings). t.container) (sym c.self.view_is)) in
    (λ i. record { prefix = prefix i; tags = tags i; container = container i; enrichment = s.enrichment; strict = false; cleaned = true }) ∙ ap with_cleaned_texts c.self.view_is
