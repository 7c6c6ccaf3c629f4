use Rattle.std.proofs.Common.{◌∙◌, ap, sym}
use Rattle.cadence_text.specs.Cleaned.{stays}
use Rattle.cadence_text.specs.FreeTexts.{is_no_separator, is_no_tag_end}
use Rattle.cadence_text.proofs.grammar.FreeTexts.{no_separator, no_separator_from, no_tag_end, no_tag_end_from, same_test}
use Rattle.cadence_text.proofs.line.cleaning.stays.Goals as goal

pub returns-then-after_key : goal.returns-then-after_key
returns-then-after_key c =
    let byte = c.args.byte in
    let test = c.is_no_tag_end.ensures in
    same_test c.is_no_tag_end.result (is_no_tag_end byte) (λ h. no_tag_end_from byte (test.0 h)) (λ h. test.1 (no_tag_end byte h))
    ∙ ap (λ after_key. stays after_key byte) (sym c.if-after_key.true)

pub returns-else-after_key : goal.returns-else-after_key
returns-else-after_key c =
    let byte = c.args.byte in
    let test = c.is_no_separator.ensures in
    same_test c.is_no_separator.result (is_no_separator byte) (λ h. no_separator_from byte (test.0 h)) (λ h. test.1 (no_separator byte h))
    ∙ ap (λ after_key. stays after_key byte) (sym c.if-after_key.false)
