use Rattle.std.proofs.Common.{◌≡◌, ◌∷◌, ◌∙◌, ap, ap₂, map, subst, true, false}
use Rattle.std.specs.Prelude.{string_bytes}
use Rattle.cadence_text.specs.Cleaned.{cleaned_text}
use Rattle.cadence_words.specs.Finds.{FindsOrFails}
use Rattle.cadence_words.specs.Lines.{IsLineOfGiven}
use Rattle.cadence_words.specs.TagWords.{tag_words}
use Rattle.cadence_words.proofs.WordByWord.{texts}
use Rattle.cadence_words.proofs.line.write_cleaned_line.Goals as goal

pub returns : goal.returns
returns g c =
    let name : c.deref-3.result.now ≡ cleaned_text false c.args.name.now = c.deref-3.ensures ∙ c.in_ok-name.ensures in
    let tags : texts c.deref-2.result.now ≡ map (cleaned_text true) (tag_words c.args.tags) =
    ap texts c.deref-2.ensures.value ∙ c.in_ok-lent.ensures ∙ ap (map string_bytes) c.deref.ensures.value ∙ c.in_ok-words.ensures in
    subst (λ ws. FindsOrFails (IsLineOfGiven c.args.defaults.now ws) (λ _. c.write_given_line.new.buffer.items) c.write_given_line.result)
    (ap₂ (λ n ts. c.args.kind.now ∷ n ∷ c.args.value.now ∷ ts) name tags) c.write_given_line.ensures
