use Rattle.std.proofs.Common.{◌≡◌, ◌∙◌, List, Option, None, Some, ap, true, ap₂, string_bytes, sym}
use Rattle.std.specs.Option.{option_copied}
use Rattle.cadence_text.specs.Cleaned.{tag_as, text_as}
use Rattle.cadence_text.specs.Metric.{keyed, unkeyed}
use Rattle.cadence_settings.specs.KeptTexts.{kept_text}
use Rattle.cadence_settings.proofs.calls.KeptTexts.{kept_keyed, kept_unkeyed}
use Rattle.cadence_settings.proofs.settings.ClientSettings.kept_tag.Goals as goal

pub returns-in_ok-kept_text-in-Some : goal.returns-in_ok-kept_text-in-Some
returns-in_ok-kept_text-in-Some g c =
    let s = c.args.self.now in
    let text = c.args.text.now in
    let key : string_bytes c.in_ok-kept-in-Some.kept ≡ text_as s.cleaned c.in-Some.key.now = c.in_ok-kept-in-Some.ensures in
    let value : string_bytes c.in_ok-kept_text-in-Some.field-0 ≡ kept_text s true text = c.in_ok-kept_text-in-Some.ensures in
    let given : Some c.in-Some.key.now ≡ option_copied c.args.key = ap option_copied (sym c.in-Some.is) in
    ap₂ keyed key value ∙ kept_keyed s.cleaned c.in-Some.key.now text
    ∙ ap (λ (k : Option (List _)). tag_as s.cleaned (record { key = k; text = text })) given

pub returns-in_ok-kept_text-in-None : goal.returns-in_ok-kept_text-in-None
returns-in_ok-kept_text-in-None g c =
    let s = c.args.self.now in
    let text = c.args.text.now in
    let value : string_bytes c.in_ok-kept_text-in-None.field-0 ≡ text_as s.cleaned text = c.in_ok-kept_text-in-None.ensures in
    let given : None ≡ option_copied c.args.key = ap option_copied (sym c.in-None.is) in
    ap unkeyed value ∙ kept_unkeyed s.cleaned text
    ∙ ap (λ (k : Option (List _)). tag_as s.cleaned (record { key = k; text = text })) given
