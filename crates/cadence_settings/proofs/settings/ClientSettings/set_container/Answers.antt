use Rattle.std.proofs.Common.{◌≡◌, ◌∙◌, List, Some, ap, string_bytes, subst, sym}
use Rattle.std.specs.Prelude.{IsTrue}
use Rattle.cadence_text.specs.Cleaned.{text_as}
use Rattle.cadence_settings.specs.Settings.{Settings, allows_text, is_clear_settings}
use Rattle.cadence_settings.specs.SettingsParts.{settings_seen}
use Rattle.cadence_settings.proofs.calls.FreeTexts.{clear_with_container, kept_free}
use Rattle.cadence_settings.proofs.settings.ClientSettings.set_container.Goals as goal

pub invariant_of-self : goal.invariant_of-self
invariant_of-self g c =
    let inside = c.self.inside in
    let s = settings_seen inside in
    let asked = c.args.container.now in
    let kept : string_bytes c.in_ok-kept_text.field-0 ≡ text_as inside.cleaned asked =
    c.in_ok-kept_text.ensures ∙ ap (λ (s : Settings). text_as s.cleaned asked) (sym c.self.view_is) in
    let allowed : IsTrue (allows_text c.args.self.now asked) = sym c.allows_text.ensures
    ∙ c.if-not-allows_text.false in
    record {
      text = c.self.invariant.text;
      external = c.self.invariant.external;
      clear = λ either. subst (λ (t : List _). IsTrue (is_clear_settings (record s { container = Some t }))) (sym kept)
          (clear_with_container s (text_as inside.cleaned asked) (c.self.invariant.clear either)
          (kept_free c.cleaned_texts_are_clear.ensures s asked either (subst (λ (s : Settings). IsTrue (allows_text s asked)) (sym c.self.view_is) allowed)));
    }
