use Rattle.std.proofs.Common.{rules, ◌≡◌, refl, subst, Err}
use Rattle.std.specs.Prelude.{IfSome}
use Rattle.cadence_text.specs.Line.{tag_text}
use Rattle.cadence_text.specs.Owned.{tag_of_owned}
use Rattle.cadence_read.specs.Listed.{IsListedTag, IsText}
use Rattle.cadence_read.proofs.FieldsRead.{fails_on, hands_on, tag_cut}
use Rattle.cadence_read.proofs.LineParts.{key_listed, text_listed}
use Rattle.cadence_read.proofs.fields.read_tag.Goals as goal

pub returns-in_err-key : goal.returns-in_err-key
returns-in_err-key g c =
    let is : c.from_residual-in_err-key.result ≡ Err c.in_err-key.field-0.0 = search rules in
    hands_on IsListedTag tag_text c.args.text.now tag_of_owned _ c.in_err-key.field-0.0 is
    (fails_on c.in_err-key.field-0.0 IsText (λ t. t) c.in-Some.key.now IsListedTag tag_text c.args.text.now
    (λ tag good e. let (key, text) = tag_cut tag c.in-Some.key.now c.in-Some.text.now c.args.text.now good c.in-Some.ensures.front
    c.in-Some.ensures.whole e in
    (c.in-Some.key.now, subst (λ k. IfSome k IsText) key (key_listed tag good), refl))
    c.in_err-key.ensures)

pub returns-in_err-text-2 : goal.returns-in_err-text-2
returns-in_err-text-2 g c =
    let is : c.from_residual-in_err-text-2.result ≡ Err c.in_err-text-2.field-0.0 = search rules in
    hands_on IsListedTag tag_text c.args.text.now tag_of_owned _ c.in_err-text-2.field-0.0 is
    (fails_on c.in_err-text-2.field-0.0 IsText (λ t. t) c.in-Some.text.now IsListedTag tag_text c.args.text.now
    (λ tag good e. let (key, text) = tag_cut tag c.in-Some.key.now c.in-Some.text.now c.args.text.now good c.in-Some.ensures.front
    c.in-Some.ensures.whole e in
    (tag.text, text_listed tag good, text))
    c.in_err-text-2.ensures)
