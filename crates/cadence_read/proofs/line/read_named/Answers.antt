use Rattle.std.proofs.Common.{◌∷◌, ◌++◌, ◌∙◌, subst, sym}
use Rattle.cadence_text.specs.Line.{line_of}
use Rattle.cadence_text.specs.Owned.{metric_of_owned}
use Rattle.cadence_read.specs.LineTexts.{field_texts, line_texts}
use Rattle.cadence_read.specs.Listed.{IsListed}
use Rattle.cadence_read.specs.Reads.{ReadsOrFails}
use Rattle.cadence_read.proofs.LineParts.{name_plain, line_cut, line_from_texts, texts_from_line}
use Rattle.cadence_read.proofs.FieldsRead.{reads_through}
use Rattle.cadence_read.proofs.line.read_named.Goals as goal

pub returns-in_default : goal.returns-in_default
returns-in_default g c m (good, e) =
    c.in_default.ensures.texts (field_texts m) (name_plain m good, line_cut m (c.args.name.now ++ 58 ∷ c.args.rest.now) good e)

pub returns-then-is_plain : goal.returns-then-is_plain
returns-then-is_plain g c =
    let line = c.args.name.now ++ 58 ∷ c.args.rest.now in
    let texts = line_texts c.in-Some.texts in
    let parts = c.in-Some.ensures.texts.1 in
    reads_through IsListed field_texts texts line_of line metric_of_owned c.read_texts.result
    (λ m good e. line_from_texts m line texts good parts e)
    (λ m good e. texts_from_line m line texts good c.in-Some.ensures.texts.0 parts e)
    (subst (λ t. ReadsOrFails IsListed field_texts t metric_of_owned c.read_texts.result) (c.plain_texts.ensures.texts
    ∙ sym (c.is_plain.ensures c.if-is_plain.true)) c.read_texts.ensures)

pub returns : goal.returns
returns g c =
    let line = c.args.name.now ++ 58 ∷ c.args.rest.now in
    let texts = line_texts c.in-Some.texts in
    let parts = c.in-Some.ensures.texts.1 in
    reads_through IsListed field_texts texts line_of line metric_of_owned c.read_texts-2.result
    (λ m good e. line_from_texts m line texts good parts e)
    (λ m good e. texts_from_line m line texts good c.in-Some.ensures.texts.0 parts e)
    c.read_texts-2.ensures
