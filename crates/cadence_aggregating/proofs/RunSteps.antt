-- The accepted lines of a run, one step further.
use Rattle.std.proofs.Common.{◌≡◌, List, [], ◌∷◌, ◌++◌, length, sym, ap, ◌∙◌, arith, append_assoc, append-nil}
use Rattle.std.specs.Prelude.{Result}
use Rattle.cadence_errors.specs.declared.SinkError.{SinkError}
use Rattle.cadence_aggregating.specs.Runs.{accepted_line, accepted_lines}
use Rattle.cadence_aggregating.specs.declared.runs.Step.{Step}

abbrev pub Reply : Type 0
Reply = Result (Unit {0}) SinkError

pub accepted_more : (xs : List Step) (rs : List Reply) (x : Step) (r : Reply) → length rs ≡ length xs
    → accepted_lines (xs ++ x ∷ []) (rs ++ r ∷ []) ≡ accepted_lines xs rs ++ accepted_line x r
accepted_more [] [] x r h = append-nil (accepted_line x r)
accepted_more [] (q ∷ rs) x r h = absurd (omega arith)
accepted_more (y ∷ xs) [] x r h = absurd (omega arith)
accepted_more (y ∷ xs) (q ∷ rs) x r h =
    ap (λ t. accepted_line y q ++ t) (accepted_more xs rs x r (omega arith)) ∙ sym (append_assoc (accepted_line y q) (accepted_lines xs rs) (accepted_line x r))
