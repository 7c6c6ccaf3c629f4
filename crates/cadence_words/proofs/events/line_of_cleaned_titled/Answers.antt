use Rattle.std.proofs.Common.{◌≡◌, ◌∙◌, ap, map, subst, true}
use Rattle.std.specs.Prelude.{string_bytes}
use Rattle.cadence_text.specs.Cleaned.{cleaned_text}
use Rattle.cadence_words.specs.Events.{IsLineOfTitled}
use Rattle.cadence_words.specs.Finds.{FindsOrFails}
use Rattle.cadence_words.proofs.WordByWord.{texts}
use Rattle.cadence_words.proofs.events.line_of_cleaned_titled.Goals as goal

pub returns : goal.returns
returns g c =
    let tags : texts c.deref-2.result.now ≡ map (cleaned_text true) (texts c.args.words.now) =
    ap texts c.deref-2.ensures.value ∙ c.in_ok-lent.ensures ∙ ap (map string_bytes) c.deref.ensures.value ∙ c.in_ok-copies.ensures in
    subst (λ ws. FindsOrFails (IsLineOfTitled c.args.defaults.now c.args.fields.now c.args.title.now c.args.text.now ws) (λ line. string_bytes line)
    c.line_of_titled.result) tags c.line_of_titled.ensures
