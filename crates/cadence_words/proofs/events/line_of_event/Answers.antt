use Rattle.std.proofs.Common.{◌≡◌, ◌∙◌, sym, true, false}
use Rattle.std.specs.Prelude.{string_bytes}
use Rattle.cadence_words.proofs.EventWords.{event_whole, three_parts}
use Rattle.cadence_words.proofs.WordByWord.{rest_of, texts}
use Rattle.cadence_words.proofs.events.line_of_event.Goals as goal

pub returns-then-not-is_cleaned : goal.returns-then-not-is_cleaned
returns-then-not-is_cleaned g c =
    let words = c.args.words.now in
    let d = c.args.defaults.now in
    let is : d.settings.cleaned ≡ false = sym c.is_cleaned.ensures.cleaned ∙ c.if-not-is_cleaned.true in
    event_whole d c.args.fields.now _ _ _ (texts (rest_of words)) (λ line. string_bytes line) (texts words)
    (three_parts words _ _ c.in-len3-up.len_at_least) false is c.line_of_titled.result c.requires c.line_of_titled.ensures

pub returns : goal.returns
returns g c =
    let words = c.args.words.now in
    let d = c.args.defaults.now in
    let is : d.settings.cleaned ≡ true = sym c.is_cleaned.ensures.cleaned ∙ c.if-not-is_cleaned.false in
    event_whole d c.args.fields.now _ _ _ (texts (rest_of words)) (λ line. string_bytes line) (texts words)
    (three_parts words _ _ c.in-len3-up.len_at_least) true is c.line_of_cleaned_titled.result c.requires c.line_of_cleaned_titled.ensures
