use Rattle.std.proofs.Common.{◌∙◌, ◌∷◌, ap, subst, sym}
use Rattle.cadence_words.specs.Asked.{words_of}
use Rattle.cadence_words.specs.Finds.{FindsOrFails}
use Rattle.cadence_words.specs.Lines.{IsLineOfWords}
use Rattle.cadence_words.proofs.WordByWord.{no_word}
use Rattle.cadence_words.proofs.line.write_line_of_str.Goals as goal

pub returns-in_default : goal.returns-in_default
returns-in_default g c = no_word c.args.defaults.now (words_of c.args.text.now) c.in_default.ensures.none

pub returns : goal.returns
returns g c =
    let are = c.in-Some.ensures.some
    ∙ ap (λ ws. c.in-Some.kind.now ∷ ws) (c.in-Some-split_word.ensures.some
    ∙ ap (λ ws. c.in-Some-split_word.name.now ∷ ws) c.in-Some-split_word-2.ensures.some) in
    subst (λ ws. FindsOrFails (IsLineOfWords c.args.defaults.now ws) (λ _. c.write_line.new.buffer.items) c.write_line.result) (sym are)
    c.write_line.ensures
