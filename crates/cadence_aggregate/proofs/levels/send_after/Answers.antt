use Rattle.std.specs.Option.{ok_or}
use Rattle.std.proofs.Common.{sym}
use Rattle.cadence_aggregate.specs.Held.{held_levels}
use Rattle.cadence_aggregate.specs.Lines.{samples_of}
use Rattle.cadence_aggregate.proofs.Observed.{same_of}
use Rattle.cadence_aggregate.proofs.OtherSteps.{sent_after}
use Rattle.cadence_aggregate.proofs.Rearranged.{map_ok}
use Rattle.cadence_aggregate.proofs.Tables.{on_err}
use Rattle.cadence_aggregate.proofs.Within.{either_reply, levels_within, sent_within, within_both}
use Rattle.cadence_aggregate.specs.Within.{AreWithin}
use Rattle.cadence_aggregate.proofs.levels.send_after.Goals as goal

pub returns-in_err-flush_levels-clause-err : goal.returns-in_err-flush_levels-clause-err
returns-in_err-flush_levels-clause-err g c =
    on_err (ok_or c.from_residual.result c.flush_levels.new.fault) (same_of _ _ (sym c.in_err-flush_levels.ensures.same))

pub returns-clause-ok : goal.returns-clause-ok
returns-clause-ok g c =
    let sent = g.S.LineSink.sent in
    let none = c.in_ok-flush_levels.ensures.ok in
    rw none (map_ok (ok_or c.send.result c.send.new.fault) (sent_after (sent c.args.sink.now) (sent c.flush_levels.new.sink) (sent c.send.new.self) (held_levels c.args.levels.now.entries) (samples_of c.args.line)
    (rw none at c.in_ok-flush_levels.ensures.same)) c.send.ensures.ok)

pub returns-in_err-flush_levels-clause-within : goal.returns-in_err-flush_levels-clause-within
returns-in_err-flush_levels-clause-within g c =
    let sent = g.S.LineSink.sent in
    λ most more. sent_within most (sent c.args.sink.now) (sent c.flush_levels.new.sink) (held_levels c.args.levels.now.entries) (held_levels c.flush_levels.new.levels.entries)
    c.in_err-flush_levels.ensures.same (levels_within most c.args.levels.now.entries)

pub returns-clause-within : goal.returns-clause-within
returns-clause-within g c =
    let sent = g.S.LineSink.sent in
    λ most more within.
    let before : AreWithin most (sent c.flush_levels.new.sink) =
    sent_within most (sent c.args.sink.now) (sent c.flush_levels.new.sink) (held_levels c.args.levels.now.entries) (held_levels c.flush_levels.new.levels.entries)
    c.in_ok-flush_levels.ensures.same (levels_within most c.args.levels.now.entries) within in
    either_reply (ok_or c.send.result c.send.new.fault) (λ h. AreWithin most h) (sent c.flush_levels.new.sink) (samples_of c.args.line) (sent c.send.new.self) c.send.ensures.ok c.send.ensures.err before (within_both most (sent c.flush_levels.new.sink) (samples_of c.args.line) before more)
