use Rattle.std.proofs.Common.{◌≡◌, ℕ, List, map, ap, subst, sym, ◌∙◌}
use Rattle.cadence_stage.specs.OwnLog.{items_of}
use Rattle.cadence_queuing.specs.Look.{calls_at, stage_at}
use Rattle.cadence_aggregating.specs.Past.{Summarizes}
use Rattle.cadence_aggregating.specs.Recorded.{lines_accepted, lines_in_calls, lines_taken, samples_held}
use Rattle.cadence_aggregating.proofs.Records.{past_shows, without_lengths}
use Rattle.cadence_aggregating.proofs.looks.summary.Goals as goal

pub returns : goal.returns
returns g c =
    let a = stage_at c.args.look.now in
    let accepted = lines_accepted a in
    let same : accepted ≡ lines_in_calls (calls_at c.args.look.now) =
    sym (without_lengths accepted) ∙ ap (map (λ (taken : List ℕ × ℕ). taken.0)) c.took.ensures in
    subst (λ (lines : List (List ℕ)). ∥ Summarizes lines (lines_taken a) (samples_held a) ∥₁) same
    (past_shows a.sums.limits.most_bytes accepted (items_of a.printer.notes) (samples_held a) a.past)
