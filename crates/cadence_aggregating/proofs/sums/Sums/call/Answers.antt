use Rattle.std.proofs.Common.{◌≡◌, ◌++◌, ◌∙◌, length, ap, sym, subst}
use Rattle.std.proofs.Math.Logic.{∥∥₁_map, ∥∥₁_elim, ∥∥₁_prop}
use Rattle.cadence_stage.specs.OwnLog.{items_of}
use Rattle.cadence_aggregate.specs.Aggregate.{held}
use Rattle.cadence_aggregate.specs.Lines.{sample_of}
use Rattle.cadence_aggregating.specs.Accepted.{line_of_entry, lines_of_entries}
use Rattle.cadence_aggregating.specs.Calls.{line_of_keyed}
use Rattle.cadence_aggregating.specs.Printed.{line_saying}
use Rattle.cadence_aggregating.specs.Says.{LineSays}
use Rattle.cadence_aggregating.proofs.Called.{entry_more, shorter_held}
use Rattle.cadence_aggregating.proofs.Records.{none_said, past_kept, past_more}
use Rattle.cadence_aggregating.proofs.sums.Sums.call.Goals as goal

pub returns-in_err-add_or_pass-clause-summary : goal.returns-in_err-add_or_pass-clause-summary
returns-in_err-add_or_pass-clause-summary g c = λ past.
    let old = c.args.self.now in
    let new = c.add_or_pass.new in
    let before = g.S.LineSink.sent c.args.sink.now in
    let after = g.S.LineSink.sent new.sink in
    let within = none_said old.limits.most_bytes (before ++ held old.aggregator) (after ++ held new.aggregator) (rw old.limit at c.in_err-add_or_pass.ensures.within) in
    ∥∥₁_map past (λ p. past_kept old.limits.most_bytes (lines_of_entries (items_of old.accepted)) before (held old.aggregator) after (held new.aggregator) p
    c.in_err-add_or_pass.ensures.err within)

pub returns-clause-summary : goal.returns-clause-summary
returns-clause-summary g c = λ past.
    let old = c.args.self.now in
    let new = c.add_or_pass.new in
    let said = sample_of c.in-Ok.said in
    let is_line : line_of_entry c.of.result ≡ line_of_keyed c.args.call = ap line_saying c.of.ensures ∙ c.in-Ok.ensures.line in
    rw c.note.ensures.items (∥∥₁_elim c.in-Ok.ensures.says ∥∥₁_prop (λ says. ∥∥₁_map past (λ p. past_more old.limits.most_bytes (items_of old.accepted) c.of.result
    (g.S.LineSink.sent c.args.sink.now) (held old.aggregator) (g.S.LineSink.sent new.sink) (held new.aggregator) said p
    (subst (λ line. LineSays line said) (sym is_line) says) c.in_ok-add_or_pass.ensures.ok (rw old.limit at c.in_ok-add_or_pass.ensures.within))))

pub returns-clause-ok : goal.returns-clause-ok
returns-clause-ok g c =
    ap lines_of_entries c.note.ensures.items
    ∙ entry_more (items_of c.args.self.now.accepted) c.of.result (line_of_keyed c.args.call) (ap line_saying c.of.ensures ∙ c.in-Ok.ensures.line)

pub returns-clause-quiet : goal.returns-clause-quiet
returns-clause-quiet g c =
    let old = c.args.self.now in
    ∥∥₁_map c.in-Ok.ensures.says (λ says. (
      c.in-Ok.said,
      says,
      λ to_hold can. c.add_or_pass.ensures.quiet
          (c.holds-is_held.ensures.held (shorter_held old.limits c.in-Ok.said (length c.context_of-context.result.now) (length (line_of_keyed c.args.call)) c.context_of-context.ensures to_hold)) can,
    ))
