use Rattle.std.proofs.Common.{subst, sym}
use Rattle.std.specs.Prelude.{IfSome, option_map}
use Rattle.cadence_c.specs.Sums.{HasSummary}
use Rattle.cadence_c.proofs.sums.cadence_add_line.Goals as goal

pub returns-clause-summary : goal.returns-clause-summary
returns-clause-summary c =
    subst (λ sums. IfSome (option_map (λ s. s.lines) sums) HasSummary) (sym c.put.ensures)
    (subst (λ s. HasSummary s.lines) c.deref.ensures
    (record { summary = c.keeps_the_record.ensures.summary; origins = c.keeps_the_record.ensures.origins }))
