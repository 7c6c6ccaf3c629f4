use Rattle.std.proofs.Common.{rules, ◌≡◌, ◌∷◌, subst, sym, true, false}
use Rattle.cadence_words.specs.Finds.{FindsOrFails}
use Rattle.cadence_words.specs.Lines.{IsLineOfGiven, words_as}
use Rattle.cadence_words.specs.TagWords.{tag_words}
use Rattle.cadence_words.proofs.line.write_line.Goals as goal

pub returns-then-is_cleaned : goal.returns-then-is_cleaned
returns-then-is_cleaned g c =
    let words = c.args.kind.now ∷ c.args.name.now ∷ c.args.value.now ∷ tag_words c.args.tags in
    let is : c.args.defaults.now.settings.cleaned ≡ true = search rules in
    subst (λ b. FindsOrFails (IsLineOfGiven c.args.defaults.now (words_as b words)) (λ _. c.write_cleaned_line.new.buffer.items)
    c.write_cleaned_line.result)
    (sym is) c.write_cleaned_line.ensures

pub returns : goal.returns
returns g c =
    let words = c.args.kind.now ∷ c.args.name.now ∷ c.args.value.now ∷ tag_words c.args.tags in
    let is : c.args.defaults.now.settings.cleaned ≡ false = search rules in
    subst (λ b. FindsOrFails (IsLineOfGiven c.args.defaults.now (words_as b words)) (λ _. c.write_given_line.new.buffer.items)
    c.write_given_line.result)
    (sym is) c.write_given_line.ensures
