use Rattle.std.proofs.Common.{◌≡◌, ◌++◌, ap, sym, subst}
use Rattle.std.proofs.Math.Logic.{∥∥₁_map}
use Rattle.cadence_stage.specs.OwnLog.{items_of}
use Rattle.cadence_aggregate.specs.Aggregate.{held}
use Rattle.cadence_aggregate.specs.Lines.{sample_of}
use Rattle.cadence_aggregating.specs.Accepted.{line_of_entry, lines_of_entries}
use Rattle.cadence_aggregating.specs.Printed.{line_saying}
use Rattle.cadence_aggregating.specs.Says.{LineSays}
use Rattle.cadence_aggregating.proofs.Records.{none_said, past_kept, past_more}
use Rattle.cadence_aggregating.proofs.sums.Sums.add.Goals as goal

pub returns-in_err-add_or_pass-clause-summary : goal.returns-in_err-add_or_pass-clause-summary
returns-in_err-add_or_pass-clause-summary g c = λ past.
    let old = c.args.self.now in
    let new = c.add_or_pass.new in
    let before = g.S.LineSink.sent c.args.sink.now in
    let after = g.S.LineSink.sent new.sink in
    let within = none_said old.limits.most_bytes (before ++ held old.aggregator) (after ++ held new.aggregator) (rw old.limit at c.in_err-add_or_pass.ensures.within) in
    ∥∥₁_map past (λ p. past_kept old.limits.most_bytes (lines_of_entries (items_of old.accepted)) before (held old.aggregator) after (held new.aggregator) p
    c.in_err-add_or_pass.ensures.err within)

pub returns-clause-summary : goal.returns-clause-summary
returns-clause-summary g c = λ past.
    let old = c.args.self.now in
    let new = c.add_or_pass.new in
    let entry = c.of.result in
    let is_line : line_of_entry entry ≡ c.args.line.now = ap line_saying c.of.ensures in
    let says : LineSays (line_of_entry entry) (sample_of c.in-Ok.said) = subst (λ line. LineSays line (sample_of c.in-Ok.said)) (sym is_line) c.in-Ok.ensures in
    rw c.note.ensures.items (∥∥₁_map past (λ p. past_more old.limits.most_bytes (items_of old.accepted) entry
    (g.S.LineSink.sent c.args.sink.now) (held old.aggregator) (g.S.LineSink.sent new.sink) (held new.aggregator) (sample_of c.in-Ok.said) p
    says c.in_ok-add_or_pass.ensures.ok (rw old.limit at c.in_ok-add_or_pass.ensures.within)))

pub returns-clause-quiet : goal.returns-clause-quiet
returns-clause-quiet g c =
    ∣ (c.in-Ok.said, c.in-Ok.ensures, λ to_hold can. c.add_or_pass.ensures.quiet (c.holds-is_held.ensures.held to_hold) can) ∣₁
