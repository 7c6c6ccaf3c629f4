use Rattle.std.specs.Option.{ok_or}
use Rattle.std.proofs.Common.{◌≡◌, ◌++◌, [], List, sym, ap, ◌∙◌, append_assoc, append-nil}
use Rattle.cadence_aggregate.specs.Aggregate.{held_after, held_first}
use Rattle.cadence_aggregate.specs.Held.{held_sums, held_levels, held_members, held_timings}
use Rattle.cadence_aggregate.specs.Server.{Sample}
use Rattle.cadence_aggregate.proofs.InTurn.{fewest_in_turn, none_first}
use Rattle.cadence_aggregate.proofs.Tables.{on_ok}
use Rattle.cadence_aggregate.proofs.aggregator.Aggregator.flush.Goals as goal

one_pass : (s0 s1 f0 f1 a0 a1 : List Sample) → s1 ++ f1 ≡ s0 ++ f0 → a1 ≡ a0 → s1 ++ (f1 ++ a1) ≡ s0 ++ (f0 ++ a0)
one_pass s0 s1 f0 f1 a0 a1 e f = sym (append_assoc s1 f1 a1) ∙ ap (λ t. t ++ a1) e ∙ ap (λ t. (s0 ++ f0) ++ t) f ∙ append_assoc s0 f0 a0

-- the first pass sent what was due, and the second one what was not
two_passes : (s0 s1 s2 f0 f1 f2 f3 a0 a1 a3 : List Sample) → s1 ++ f1 ≡ s0 ++ f0 → a1 ≡ a0 → f1 ≡ [] → f2 ≡ a1 → s2 ++ f3 ≡ s1 ++ f2 → a3 ≡ [] → s2 ++ (f3 ++ a3) ≡ s0 ++ (f0 ++ a0)
two_passes s0 s1 s2 f0 f1 f2 f3 a0 a1 a3 e f none all g end =
    let whole : s1 ≡ s0 ++ f0 = sym (append-nil s1) ∙ ap (λ t. s1 ++ t) (sym none) ∙ e in
    ap (λ t. s2 ++ (f3 ++ t)) end ∙ ap (λ t. s2 ++ t) (append-nil f3) ∙ g ∙ ap (λ t. s1 ++ t) all ∙ ap (λ t. t ++ a1) whole ∙ ap (λ t. (s0 ++ f0) ++ t) f ∙ append_assoc s0 f0 a0

pub returns-in_err-send_due-clause-same : goal.returns-in_err-send_due-clause-same
returns-in_err-send_due-clause-same g c =
    let sent = g.S.LineSink.sent in
    let now = c.args.self.now in
    let left = c.send_due.new.self in
    one_pass (sent c.args.sink.now) (sent c.send_due.new.sink) (held_first now) (held_first left) (held_after now) (held_after left) c.in_err-send_due.ensures.same c.in_err-send_due.ensures.rest

pub returns-clause-same : goal.returns-clause-same
returns-clause-same g c =
    let sent = g.S.LineSink.sent in
    let now = c.args.self.now in
    let mid = c.send_due.new.self in
    let all = c.make_all_due.new.self in
    let end = c.send_due-2.new.self in
    let e = c.in_ok-send_due.ensures in
    two_passes (sent c.args.sink.now) (sent c.send_due.new.sink) (sent c.send_due-2.new.sink)
    (held_first now) (held_first mid) (held_first all) (held_first end) (held_after now) (held_after mid) (held_after end)
    e.same e.rest (none_first mid.due (held_sums mid.sums.entries) (held_levels mid.levels.entries) (held_members mid.members.entries) (held_timings mid.timings.entries) e.ok)
    c.make_all_due.ensures.first c.send_due-2.ensures.same (c.send_due-2.ensures.rest ∙ c.make_all_due.ensures.after)

pub returns-clause-fewest : goal.returns-clause-fewest
returns-clause-fewest g c =
    let a = c.args.self.now in
    let d = c.lengths.ensures.distinct in
    on_ok (ok_or c.send_due-2.result c.send_due-2.new.fault) (λ ys same. fewest_in_turn a.due a.sums.entries a.levels.entries a.members.entries a.timings.entries ys same d.sums d.levels d.members)
