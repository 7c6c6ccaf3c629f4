use Rattle.std.specs.Option.{ok_or}
use Rattle.std.proofs.Common.{◌∷◌, [], refl, rules}
use Rattle.std.proofs.lemmas.Int.{to_z-of_z}
use mir.Syntax.{w64}
use mir.Val.{SFits}
use Rattle.cadence_aggregate.specs.Server.{amount, level, member, timing}
use Rattle.cadence_aggregate.proofs.InTurn.{kept_in_turn, said_in_turn, stay_in_turn}
use Rattle.cadence_aggregate.proofs.Rearranged.{sums_said, levels_said, members_said, sums_kept, levels_kept, members_kept, timings_said, timings_kept, map_ok, map_err}
use Rattle.cadence_aggregate.proofs.Within.{others_within, timings_only}
use Rattle.cadence_aggregate.proofs.aggregator.Aggregator.add.Goals as goal

pub returns-in-Amount-clause-ok : goal.returns-in-Amount-clause-ok
returns-in-Amount-clause-ok g c =
    let a = c.args.self.now in
    let sent = g.S.LineSink.sent in
    let said = amount c.in-Amount.context.now c.in-Amount.by ∷ [] in
    let fits : SFits w64 c.in-Amount.by = search rules in
    rw c.in-Amount.is (map_ok (ok_or c.add_amount.result c.add_amount.new.fault) (λ same. said_in_turn a.due (sent c.args.sink.now) (sent c.add_amount.new.sink) said a.sums.entries c.add_amount.new.sums.entries a.levels.entries a.levels.entries a.members.entries a.members.entries a.timings.entries a.timings.entries
    (sums_said (sent c.args.sink.now) (sent c.add_amount.new.sink) a.sums.entries a.levels.entries a.members.entries a.timings.entries c.add_amount.new.sums.entries said ((λ ours. refl), refl) same)) (rw (to_z-of_z w64 c.in-Amount.by fits) at c.add_amount.ensures.ok))

pub returns-in-Amount-clause-err : goal.returns-in-Amount-clause-err
returns-in-Amount-clause-err g c =
    let a = c.args.self.now in
    let sent = g.S.LineSink.sent in
    map_err (ok_or c.add_amount.result c.add_amount.new.fault) (λ same. kept_in_turn a.due (sent c.args.sink.now) (sent c.add_amount.new.sink) [] a.sums.entries c.add_amount.new.sums.entries a.levels.entries a.levels.entries a.members.entries a.members.entries a.timings.entries a.timings.entries
    (sums_kept (sent c.args.sink.now) (sent c.add_amount.new.sink) a.sums.entries a.levels.entries a.members.entries a.timings.entries c.add_amount.new.sums.entries same)) c.add_amount.ensures.err

pub returns-in-Level-clause-ok : goal.returns-in-Level-clause-ok
returns-in-Level-clause-ok g c =
    let a = c.args.self.now in
    let sent = g.S.LineSink.sent in
    let said = level c.in-Level.context.now c.in-Level.value.now ∷ [] in
    rw c.in-Level.is (map_ok (ok_or c.set_level.result c.set_level.new.fault) (λ same. said_in_turn a.due (sent c.args.sink.now) (sent c.set_level.new.sink) said a.sums.entries a.sums.entries a.levels.entries c.set_level.new.levels.entries a.members.entries a.members.entries a.timings.entries a.timings.entries
    (levels_said (sent c.args.sink.now) (sent c.set_level.new.sink) a.sums.entries a.levels.entries a.members.entries a.timings.entries c.set_level.new.levels.entries said same)) c.set_level.ensures.ok)

pub returns-in-Level-clause-err : goal.returns-in-Level-clause-err
returns-in-Level-clause-err g c =
    let a = c.args.self.now in
    let sent = g.S.LineSink.sent in
    map_err (ok_or c.set_level.result c.set_level.new.fault) (λ same. kept_in_turn a.due (sent c.args.sink.now) (sent c.set_level.new.sink) [] a.sums.entries a.sums.entries a.levels.entries c.set_level.new.levels.entries a.members.entries a.members.entries a.timings.entries a.timings.entries
    (levels_kept (sent c.args.sink.now) (sent c.set_level.new.sink) a.sums.entries a.levels.entries a.members.entries a.timings.entries c.set_level.new.levels.entries same)) c.set_level.ensures.err

pub returns-in-Member-clause-ok : goal.returns-in-Member-clause-ok
returns-in-Member-clause-ok g c =
    let a = c.args.self.now in
    let sent = g.S.LineSink.sent in
    let said = member c.in-Member.context.now ∷ [] in
    rw c.in-Member.is (map_ok (ok_or c.add_member.result c.add_member.new.fault) (λ same. said_in_turn a.due (sent c.args.sink.now) (sent c.add_member.new.sink) said a.sums.entries a.sums.entries a.levels.entries a.levels.entries a.members.entries c.add_member.new.members.entries a.timings.entries a.timings.entries
    (members_said (sent c.args.sink.now) (sent c.add_member.new.sink) a.sums.entries a.levels.entries a.members.entries a.timings.entries c.add_member.new.members.entries said ((λ ours. refl), refl) same)) c.add_member.ensures.ok)

pub returns-in-Member-clause-err : goal.returns-in-Member-clause-err
returns-in-Member-clause-err g c =
    let a = c.args.self.now in
    let sent = g.S.LineSink.sent in
    map_err (ok_or c.add_member.result c.add_member.new.fault) (λ same. kept_in_turn a.due (sent c.args.sink.now) (sent c.add_member.new.sink) [] a.sums.entries a.sums.entries a.levels.entries a.levels.entries a.members.entries c.add_member.new.members.entries a.timings.entries a.timings.entries
    (members_kept (sent c.args.sink.now) (sent c.add_member.new.sink) a.sums.entries a.levels.entries a.members.entries a.timings.entries c.add_member.new.members.entries same)) c.add_member.ensures.err

pub returns-in-Timing-clause-ok : goal.returns-in-Timing-clause-ok
returns-in-Timing-clause-ok g c =
    let a = c.args.self.now in
    let sent = g.S.LineSink.sent in
    let said = timing c.in-Timing.context.now c.in-Timing.values.now ∷ [] in
    rw c.in-Timing.is (map_ok (ok_or c.add_timing.result c.add_timing.new.fault) (λ same. said_in_turn a.due (sent c.args.sink.now) (sent c.add_timing.new.sink) said a.sums.entries a.sums.entries a.levels.entries a.levels.entries a.members.entries a.members.entries a.timings.entries c.add_timing.new.timings.entries
    (timings_said (sent c.args.sink.now) (sent c.add_timing.new.sink) a.sums.entries a.levels.entries a.members.entries a.timings.entries c.add_timing.new.timings.entries said ((λ ours. refl), refl) same)) c.add_timing.ensures.ok)

pub returns-in-Timing-clause-err : goal.returns-in-Timing-clause-err
returns-in-Timing-clause-err g c =
    let a = c.args.self.now in
    let sent = g.S.LineSink.sent in
    map_err (ok_or c.add_timing.result c.add_timing.new.fault) (λ same. kept_in_turn a.due (sent c.args.sink.now) (sent c.add_timing.new.sink) [] a.sums.entries a.sums.entries a.levels.entries a.levels.entries a.members.entries a.members.entries a.timings.entries c.add_timing.new.timings.entries
    (timings_kept (sent c.args.sink.now) (sent c.add_timing.new.sink) a.sums.entries a.levels.entries a.members.entries a.timings.entries c.add_timing.new.timings.entries same)) c.add_timing.ensures.err

pub returns-in-Amount-clause-within : goal.returns-in-Amount-clause-within
returns-in-Amount-clause-within g c =
    let a = c.args.self.now in
    let sent = g.S.LineSink.sent in
    stay_in_turn a.due (sent c.args.sink.now) (sent c.add_amount.new.sink) _ a.sums.entries c.add_amount.new.sums.entries a.levels.entries a.levels.entries a.members.entries a.members.entries a.timings.entries a.timings.entries a.most_bytes
    (others_within a.most_bytes (sent c.args.sink.now) (sent c.add_amount.new.sink) a.sums.entries c.add_amount.new.sums.entries a.levels.entries a.levels.entries a.members.entries a.members.entries a.timings.entries
    _ c.add_amount.ensures.within)

pub returns-in-Level-clause-within : goal.returns-in-Level-clause-within
returns-in-Level-clause-within g c =
    let a = c.args.self.now in
    let sent = g.S.LineSink.sent in
    stay_in_turn a.due (sent c.args.sink.now) (sent c.set_level.new.sink) _ a.sums.entries a.sums.entries a.levels.entries c.set_level.new.levels.entries a.members.entries a.members.entries a.timings.entries a.timings.entries a.most_bytes
    (others_within a.most_bytes (sent c.args.sink.now) (sent c.set_level.new.sink) a.sums.entries a.sums.entries a.levels.entries c.set_level.new.levels.entries a.members.entries a.members.entries a.timings.entries
    _ c.set_level.ensures.within)

pub returns-in-Member-clause-within : goal.returns-in-Member-clause-within
returns-in-Member-clause-within g c =
    let a = c.args.self.now in
    let sent = g.S.LineSink.sent in
    stay_in_turn a.due (sent c.args.sink.now) (sent c.add_member.new.sink) _ a.sums.entries a.sums.entries a.levels.entries a.levels.entries a.members.entries c.add_member.new.members.entries a.timings.entries a.timings.entries a.most_bytes
    (others_within a.most_bytes (sent c.args.sink.now) (sent c.add_member.new.sink) a.sums.entries a.sums.entries a.levels.entries a.levels.entries a.members.entries c.add_member.new.members.entries a.timings.entries
    _ c.add_member.ensures.within)

pub returns-in-Timing-clause-within : goal.returns-in-Timing-clause-within
returns-in-Timing-clause-within g c =
    let a = c.args.self.now in
    let sent = g.S.LineSink.sent in
    rw c.in-Timing.is (stay_in_turn a.due (sent c.args.sink.now) (sent c.add_timing.new.sink) _ a.sums.entries a.sums.entries a.levels.entries a.levels.entries a.members.entries a.members.entries a.timings.entries c.add_timing.new.timings.entries a.most_bytes
    (timings_only a.most_bytes (sent c.args.sink.now) (sent c.add_timing.new.sink) a.sums.entries a.levels.entries a.members.entries a.timings.entries c.add_timing.new.timings.entries
    _ c.add_timing.ensures.within))
