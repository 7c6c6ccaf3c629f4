use Rattle.std.specs.Option.{ok_or}
use Rattle.std.proofs.Common.{◌∷◌, [], refl, rules}
use Rattle.std.proofs.lemmas.Int.{to_z-of_z}
use mir.Syntax.{w64}
use mir.Val.{SFits}
use Rattle.cadence_aggregate.specs.Server.{amount, level, member, timing, unclear, other}
use Rattle.cadence_aggregate.proofs.InTurn.{kept_in_turn, said_in_turn, stay_in_turn}
use Rattle.cadence_aggregate.proofs.Rearranged.{levels_said, levels_kept, passed_on, map_ok, map_err}
use Rattle.cadence_aggregate.specs.Aggregate.{held}
use Rattle.cadence_aggregate.proofs.Within.{others_within, passed_within}
use Rattle.cadence_aggregate.proofs.aggregator.Aggregator.pass.Goals as goal

pub returns-in-Amount-clause-ok : goal.returns-in-Amount-clause-ok
returns-in-Amount-clause-ok g c =
    let a = c.args.self.now in
    let sent = g.S.LineSink.sent in
    let said = amount c.in-Amount.context.now c.in-Amount.by ∷ [] in
    let fits : SFits w64 c.in-Amount.by = search rules in
    rw c.in-Amount.is (map_ok (ok_or c.send.result c.send.new.fault) (λ is. said_in_turn a.due (sent c.args.sink.now) (sent c.send.new.self) said a.sums.entries a.sums.entries a.levels.entries a.levels.entries a.members.entries a.members.entries a.timings.entries a.timings.entries
    (passed_on (sent c.args.sink.now) [] a.sums.entries a.levels.entries a.members.entries a.timings.entries said (λ ours. refl) (sent c.send.new.self) is)) (rw (to_z-of_z w64 c.in-Amount.by fits) at c.send.ensures.ok))

pub returns-in-Level-clause-ok : goal.returns-in-Level-clause-ok
returns-in-Level-clause-ok g c =
    let a = c.args.self.now in
    let sent = g.S.LineSink.sent in
    let said = level c.in-Level.context.now c.in-Level.value.now ∷ [] in
    rw c.in-Level.is (map_ok (ok_or c.send_after.result c.send_after.new.fault) (λ same. said_in_turn a.due (sent c.args.sink.now) (sent c.send_after.new.sink) said a.sums.entries a.sums.entries a.levels.entries c.send_after.new.levels.entries a.members.entries a.members.entries a.timings.entries a.timings.entries
    (levels_said (sent c.args.sink.now) (sent c.send_after.new.sink) a.sums.entries a.levels.entries a.members.entries a.timings.entries c.send_after.new.levels.entries said same)) c.send_after.ensures.ok)

pub returns-in-Level-clause-err : goal.returns-in-Level-clause-err
returns-in-Level-clause-err g c =
    let a = c.args.self.now in
    let sent = g.S.LineSink.sent in
    map_err (ok_or c.send_after.result c.send_after.new.fault) (λ same. kept_in_turn a.due (sent c.args.sink.now) (sent c.send_after.new.sink) [] a.sums.entries a.sums.entries a.levels.entries c.send_after.new.levels.entries a.members.entries a.members.entries a.timings.entries a.timings.entries
    (levels_kept (sent c.args.sink.now) (sent c.send_after.new.sink) a.sums.entries a.levels.entries a.members.entries a.timings.entries c.send_after.new.levels.entries same)) c.send_after.ensures.err

pub returns-in-Member-clause-ok : goal.returns-in-Member-clause-ok
returns-in-Member-clause-ok g c =
    let a = c.args.self.now in
    let sent = g.S.LineSink.sent in
    let said = member c.in-Member.context.now ∷ [] in
    rw c.in-Member.is (map_ok (ok_or c.send-in-Member.result c.send-in-Member.new.fault) (λ is. said_in_turn a.due (sent c.args.sink.now) (sent c.send-in-Member.new.self) said a.sums.entries a.sums.entries a.levels.entries a.levels.entries a.members.entries a.members.entries a.timings.entries a.timings.entries
    (passed_on (sent c.args.sink.now) [] a.sums.entries a.levels.entries a.members.entries a.timings.entries said (λ ours. refl) (sent c.send-in-Member.new.self) is)) c.send-in-Member.ensures.ok)

pub returns-in-Timing-clause-ok : goal.returns-in-Timing-clause-ok
returns-in-Timing-clause-ok g c =
    let a = c.args.self.now in
    let sent = g.S.LineSink.sent in
    let said = timing c.in-Timing.context.now c.in-Timing.values.now ∷ [] in
    rw c.in-Timing.is (map_ok (ok_or c.send-in-Timing.result c.send-in-Timing.new.fault) (λ is. said_in_turn a.due (sent c.args.sink.now) (sent c.send-in-Timing.new.self) said a.sums.entries a.sums.entries a.levels.entries a.levels.entries a.members.entries a.members.entries a.timings.entries a.timings.entries
    (passed_on (sent c.args.sink.now) [] a.sums.entries a.levels.entries a.members.entries a.timings.entries said (λ ours. refl) (sent c.send-in-Timing.new.self) is)) c.send-in-Timing.ensures.ok)

pub returns-in-Unclear-clause-ok : goal.returns-in-Unclear-clause-ok
returns-in-Unclear-clause-ok g c =
    let a = c.args.self.now in
    let sent = g.S.LineSink.sent in
    let said = unclear c.in-Unclear.text.now ∷ [] in
    rw c.in-Unclear.is (map_ok (ok_or c.send_after-in-Unclear.result c.send_after-in-Unclear.new.fault) (λ same. said_in_turn a.due (sent c.args.sink.now) (sent c.send_after-in-Unclear.new.sink) said a.sums.entries a.sums.entries a.levels.entries c.send_after-in-Unclear.new.levels.entries a.members.entries a.members.entries a.timings.entries a.timings.entries
    (levels_said (sent c.args.sink.now) (sent c.send_after-in-Unclear.new.sink) a.sums.entries a.levels.entries a.members.entries a.timings.entries c.send_after-in-Unclear.new.levels.entries said same)) c.send_after-in-Unclear.ensures.ok)

pub returns-in-Unclear-clause-err : goal.returns-in-Unclear-clause-err
returns-in-Unclear-clause-err g c =
    let a = c.args.self.now in
    let sent = g.S.LineSink.sent in
    map_err (ok_or c.send_after-in-Unclear.result c.send_after-in-Unclear.new.fault) (λ same. kept_in_turn a.due (sent c.args.sink.now) (sent c.send_after-in-Unclear.new.sink) [] a.sums.entries a.sums.entries a.levels.entries c.send_after-in-Unclear.new.levels.entries a.members.entries a.members.entries a.timings.entries a.timings.entries
    (levels_kept (sent c.args.sink.now) (sent c.send_after-in-Unclear.new.sink) a.sums.entries a.levels.entries a.members.entries a.timings.entries c.send_after-in-Unclear.new.levels.entries same)) c.send_after-in-Unclear.ensures.err

pub returns-in-Other-clause-ok : goal.returns-in-Other-clause-ok
returns-in-Other-clause-ok g c =
    let a = c.args.self.now in
    let sent = g.S.LineSink.sent in
    let said = other c.in-Other.other.now ∷ [] in
    rw c.in-Other.is (map_ok (ok_or c.send-in-Other.result c.send-in-Other.new.fault) (λ is. said_in_turn a.due (sent c.args.sink.now) (sent c.send-in-Other.new.self) said a.sums.entries a.sums.entries a.levels.entries a.levels.entries a.members.entries a.members.entries a.timings.entries a.timings.entries
    (passed_on (sent c.args.sink.now) [] a.sums.entries a.levels.entries a.members.entries a.timings.entries said (λ ours. refl) (sent c.send-in-Other.new.self) is)) c.send-in-Other.ensures.ok)

pub returns-in-Amount-clause-within : goal.returns-in-Amount-clause-within
returns-in-Amount-clause-within g c =
    let a = c.args.self.now in
    let sent = g.S.LineSink.sent in
    let fits : SFits w64 c.in-Amount.by = search rules in
    rw c.in-Amount.is (passed_within (ok_or c.send.result c.send.new.fault) a.most_bytes (sent c.args.sink.now) (sent c.send.new.self) (held a)
    (amount c.in-Amount.context.now c.in-Amount.by ∷ []) (rw (to_z-of_z w64 c.in-Amount.by fits) at c.send.ensures.ok) c.send.ensures.err)

pub returns-in-Level-clause-within : goal.returns-in-Level-clause-within
returns-in-Level-clause-within g c =
    let a = c.args.self.now in
    let sent = g.S.LineSink.sent in
    stay_in_turn a.due (sent c.args.sink.now) (sent c.send_after.new.sink) _ a.sums.entries a.sums.entries a.levels.entries c.send_after.new.levels.entries a.members.entries a.members.entries a.timings.entries a.timings.entries a.most_bytes
    (others_within a.most_bytes (sent c.args.sink.now) (sent c.send_after.new.sink) a.sums.entries a.sums.entries a.levels.entries c.send_after.new.levels.entries a.members.entries a.members.entries a.timings.entries
    _ (λ most. c.send_after.ensures.within most tt))

pub returns-in-Member-clause-within : goal.returns-in-Member-clause-within
returns-in-Member-clause-within g c =
    let a = c.args.self.now in
    let sent = g.S.LineSink.sent in
    rw c.in-Member.is (passed_within (ok_or c.send-in-Member.result c.send-in-Member.new.fault) a.most_bytes (sent c.args.sink.now) (sent c.send-in-Member.new.self) (held a)
    (member c.in-Member.context.now ∷ []) c.send-in-Member.ensures.ok c.send-in-Member.ensures.err)

pub returns-in-Timing-clause-within : goal.returns-in-Timing-clause-within
returns-in-Timing-clause-within g c =
    let a = c.args.self.now in
    let sent = g.S.LineSink.sent in
    rw c.in-Timing.is (passed_within (ok_or c.send-in-Timing.result c.send-in-Timing.new.fault) a.most_bytes (sent c.args.sink.now) (sent c.send-in-Timing.new.self) (held a)
    (timing c.in-Timing.context.now c.in-Timing.values.now ∷ []) c.send-in-Timing.ensures.ok c.send-in-Timing.ensures.err)

pub returns-in-Unclear-clause-within : goal.returns-in-Unclear-clause-within
returns-in-Unclear-clause-within g c =
    let a = c.args.self.now in
    let sent = g.S.LineSink.sent in
    stay_in_turn a.due (sent c.args.sink.now) (sent c.send_after-in-Unclear.new.sink) _ a.sums.entries a.sums.entries a.levels.entries c.send_after-in-Unclear.new.levels.entries a.members.entries a.members.entries a.timings.entries a.timings.entries a.most_bytes
    (others_within a.most_bytes (sent c.args.sink.now) (sent c.send_after-in-Unclear.new.sink) a.sums.entries a.sums.entries a.levels.entries c.send_after-in-Unclear.new.levels.entries a.members.entries a.members.entries a.timings.entries
    _ (λ most. c.send_after-in-Unclear.ensures.within most tt))

pub returns-in-Other-clause-within : goal.returns-in-Other-clause-within
returns-in-Other-clause-within g c =
    let a = c.args.self.now in
    let sent = g.S.LineSink.sent in
    rw c.in-Other.is (passed_within (ok_or c.send-in-Other.result c.send-in-Other.new.fault) a.most_bytes (sent c.args.sink.now) (sent c.send-in-Other.new.self) (held a)
    (other c.in-Other.other.now ∷ []) c.send-in-Other.ensures.ok c.send-in-Other.ensures.err)
