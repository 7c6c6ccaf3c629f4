use Rattle.std.proofs.Common.{rules, ◌≡◌, ◌∷◌, ◌++◌, ◌∙◌, [], ap₂, refl, Err}
use Rattle.cadence_text.specs.Line.{line_with}
use Rattle.cadence_value.specs.Number.{natural, numbers_text}
use Rattle.cadence_value.specs.Values.{numbers_of}
use Rattle.cadence_words.specs.Levels.{zero_first}
use Rattle.cadence_words.specs.Lines.{IsTextOf}
use Rattle.cadence_words.specs.TagWords.{tag_words}
use Rattle.cadence_words.proofs.WordByWord.{hands_on, other_text, zero_found}
use Rattle.cadence_words.proofs.level.write_zero_first.Goals as goal

pub returns-in_err-write_value : goal.returns-in_err-write_value
returns-in_err-write_value g c =
    let zero = line_with (numbers_text (natural 0 ∷ [])) in
    let is : c.from_residual-in_err-write_value.result ≡ Err c.in_err-write_value.field-0.0 = search rules in
    hands_on (IsTextOf c.args.defaults.now (zero_first c.args.number) c.args.kind c.args.name.now (tag_words c.args.tags)) _
    (IsTextOf c.args.defaults.now zero c.args.kind c.args.name.now (tag_words c.args.tags)) _ c.in_err-write_value.field-0.0 is
    (other_text c.args.defaults.now c.args.name.now (tag_words c.args.tags) (zero_first c.args.number) zero c.args.kind)
    c.in_err-write_value.ensures

pub returns-in_err-write_value-2 : goal.returns-in_err-write_value-2
returns-in_err-write_value-2 g c =
    let line = line_with (numbers_text (numbers_of c.single_value.result)) in
    let is : c.from_residual-in_err-write_value-2.result ≡ Err c.in_err-write_value-2.field-0.0 = search rules in
    hands_on (IsTextOf c.args.defaults.now (zero_first c.args.number) c.args.kind c.args.name.now (tag_words c.args.tags)) _
    (IsTextOf c.args.defaults.now line c.args.kind c.args.name.now (tag_words c.args.tags)) _ c.in_err-write_value-2.field-0.0 is
    (other_text c.args.defaults.now c.args.name.now (tag_words c.args.tags) (zero_first c.args.number) line c.args.kind)
    c.in_err-write_value-2.ensures

pub returns : goal.returns
returns g c =
    zero_found c.args.defaults.now c.args.name.now (tag_words c.args.tags) c.args.kind c.args.number (natural 0 ∷ [])
    (numbers_of c.single_value.result) _ _ _ refl c.single_value.ensures c.in_ok-write_value.ensures c.in_ok-write_value-2.ensures
    (c.in_ok-extend_from_slice.ensures.items ∙ ap₂ (λ a b. a ++ b) c.in_ok-push.ensures.items c.deref.ensures.value)
