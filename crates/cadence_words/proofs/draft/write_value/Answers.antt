use Rattle.std.proofs.Common.{rules, ◌≡◌, Err}
use Rattle.std.specs.List.{AllZip}
use Rattle.cadence_text.specs.Line.{line_with}
use Rattle.cadence_words.specs.Asked.{IsTagWord}
use Rattle.cadence_words.specs.Heads.{head_of}
use Rattle.cadence_words.specs.Lines.{IsTextOf}
use Rattle.cadence_words.specs.TagWords.{tag_words}
use Rattle.cadence_words.proofs.WordByWord.{hands_on, text_found, text_tags}
use Rattle.cadence_words.proofs.draft.write_value.Goals as goal

pub returns-in_err-add_to : goal.returns-in_err-add_to
returns-in_err-add_to g c =
    let (kind, value) = head_of c.args.value in
    let is : c.from_residual-in_err-add_to.result ≡ Err c.in_err-add_to.field-0.0 = search rules in
    hands_on (IsTextOf c.args.defaults.now (line_with value) kind c.args.name.now (tag_words c.args.tags)) _
    (AllZip IsTagWord (tag_words c.args.tags)) _ c.in_err-add_to.field-0.0 is
    (text_tags c.args.defaults.now c.args.name.now (tag_words c.args.tags) (line_with value) kind) c.in_err-add_to.ensures

pub returns : goal.returns
returns g c =
    text_found c.args.defaults.now c.args.name.now (tag_words c.args.tags) _ _ _ _ _
    c.in_ok-draft.ensures c.in_ok-add_to.ensures c.in_ok-buffer.ensures.text
