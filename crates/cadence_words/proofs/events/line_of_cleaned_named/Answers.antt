use Rattle.std.proofs.Common.{◌≡◌, ◌∙◌, ap, map, subst, false, true}
use Rattle.std.specs.Prelude.{string_bytes}
use Rattle.cadence_text.specs.Cleaned.{cleaned_text}
use Rattle.cadence_words.specs.Events.{IsLineOfNamed}
use Rattle.cadence_words.specs.Finds.{FindsOrFails}
use Rattle.cadence_words.proofs.WordByWord.{texts}
use Rattle.cadence_words.proofs.events.line_of_cleaned_named.Goals as goal

pub returns : goal.returns
returns g c =
    let name : c.deref-2.result.now ≡ cleaned_text false c.args.name.now = c.deref-2.ensures ∙ c.in_ok-name.ensures in
    let tags : texts c.deref-3.result.now ≡ map (cleaned_text true) (texts c.args.words.now) =
    ap texts c.deref-3.ensures.value ∙ c.in_ok-lent.ensures ∙ ap (map string_bytes) c.deref.ensures.value ∙ c.in_ok-copies.ensures in
    subst (λ ws. FindsOrFails (IsLineOfNamed c.args.defaults.now c.args.fields.now (cleaned_text false c.args.name.now) c.args.status.now ws)
    (λ line. string_bytes line) c.line_of_named.result) tags
    (subst (λ n. FindsOrFails (IsLineOfNamed c.args.defaults.now c.args.fields.now n c.args.status.now (texts c.deref-3.result.now))
    (λ line. string_bytes line) c.line_of_named.result) name c.line_of_named.ensures)
