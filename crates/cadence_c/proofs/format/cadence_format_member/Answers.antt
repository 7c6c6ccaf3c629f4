use Rattle.std.proofs.Common.{◌∙◌, subst, sym}
use Rattle.cadence_text.specs.TextValue.{IsMember}
use Rattle.cadence_c.proofs.Results.{formats_weaker}
use Rattle.cadence_c.proofs.format.cadence_format_member.Goals as goal

pub returns-in-Ok : goal.returns-in-Ok
returns-in-Ok c =
    formats_weaker _ _ _ _ _ _ _ _ _ _ _ (λ text is. (is ∙ c.in-Ok.ensures.text, subst IsMember (sym (is ∙ c.in-Ok.ensures.text)) c.in-Ok.ensures.member))
    (λ none. absurd none) c.write_line.ensures
