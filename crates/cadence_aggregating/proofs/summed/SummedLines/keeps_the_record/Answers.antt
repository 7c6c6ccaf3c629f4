use Rattle.std.proofs.Common.{List, ℕ, map, subst, ◌++◌, ◌≡◌}
use Rattle.std.proofs.Math.Logic.{∥∥₁_map}
use Rattle.std.proofs.lemmas.List.{map-append}
use Rattle.std.specs.Prelude.{All}
use Rattle.cadence_stage.specs.OwnLog.{items_of}
use Rattle.cadence_aggregating.specs.Notes.{line_of_note}
use Rattle.cadence_aggregating.specs.Origins.{ComesFrom}
use Rattle.cadence_aggregating.specs.Past.{Summarizes}
use Rattle.cadence_aggregating.specs.Sums.{accepted_by, held_by}
use Rattle.cadence_aggregating.specs.Waiting.{all_notes_of, notes_of}
use Rattle.cadence_aggregating.proofs.Origins.{comes_from}
use Rattle.cadence_aggregating.proofs.Records.{past_shows}
use Rattle.cadence_aggregating.proofs.summed.SummedLines.keeps_the_record.Goals as goal

pub returns-clause-summary : goal.returns-clause-summary
returns-clause-summary c =
    let s = c.args.self.now in
    let parts : map line_of_note (all_notes_of s.waiting) ≡ map line_of_note (items_of s.waiting.gone) ++ map line_of_note (notes_of s.waiting) =
    map-append line_of_note (items_of s.waiting.gone) (notes_of s.waiting) in
    subst (λ (lines : List (List ℕ)). ∥ Summarizes (accepted_by s.sums) lines (held_by s.sums) ∥₁) parts
    (past_shows s.sums.limits.most_bytes (accepted_by s.sums) (all_notes_of s.waiting) (held_by s.sums) s.past)

pub returns-clause-origins : goal.returns-clause-origins
returns-clause-origins c =
    let s = c.args.self.now in
    let parts : map line_of_note (all_notes_of s.waiting) ≡ map line_of_note (items_of s.waiting.gone) ++ map line_of_note (notes_of s.waiting) =
    map-append line_of_note (items_of s.waiting.gone) (notes_of s.waiting) in
    subst (λ (lines : List (List ℕ)). ∥ All (ComesFrom s.sums.limits.most_bytes (accepted_by s.sums)) lines ∥₁) parts
    (∥∥₁_map s.past (comes_from s.sums.limits.most_bytes (accepted_by s.sums) (all_notes_of s.waiting) (held_by s.sums)))
