use Rattle.std.proofs.Common.{◌≡◌, ◌++◌, [], List, take, sym, ap, ◌∙◌, append_assoc, append-nil, rules}
use Rattle.cadence_aggregate.specs.Server.{Sample}
use Rattle.cadence_aggregate.specs.Held.{held_sums, held_levels, held_members, held_timings}
use Rattle.cadence_aggregate.proofs.aggregator.Aggregator.send_due.Goals as goal

one : (s0 s1 a a' r : List Sample) → s1 ++ a' ≡ s0 ++ a → s1 ++ (a' ++ r) ≡ s0 ++ (a ++ r)
one s0 s1 a a' r e = sym (append_assoc s1 a' r) ∙ ap (λ t. t ++ r) e ∙ append_assoc s0 a r

-- a kind was sent, and then what comes after it
next : (s0 s1 s2 a b c : List Sample) → s1 ++ [] ≡ s0 ++ a → s2 ++ b ≡ s1 ++ c → s2 ++ b ≡ s0 ++ (a ++ c)
next s0 s1 s2 a b c e f = f ∙ ap (λ t. t ++ c) (sym (append-nil s1) ∙ e) ∙ append_assoc s0 a c

pub returns-in_err-send_due_levels-clause-same : goal.returns-in_err-send_due_levels-clause-same
returns-in_err-send_due_levels-clause-same g c =
    let sent = g.S.LineSink.sent in
    let a = c.args.self.now in
    let none = c.in_ok-send_due_sums.ensures.ok in
    let rest = take a.due.members (held_members a.members.entries) ++ take a.due.timings (held_timings a.timings.entries) in
    let left = take c.send_due_levels.new.due (held_levels c.send_due_levels.new.levels.entries) in
    rw none (next (sent c.args.sink.now) (sent c.send_due_sums.new.sink) (sent c.send_due_levels.new.sink)
    (take a.due.sums (held_sums a.sums.entries)) (left ++ rest) (take a.due.levels (held_levels a.levels.entries) ++ rest)
    (rw none at c.in_ok-send_due_sums.ensures.same)
    (one (sent c.send_due_sums.new.sink) (sent c.send_due_levels.new.sink) (take a.due.levels (held_levels a.levels.entries)) left rest c.in_err-send_due_levels.ensures.same))

pub returns-in_err-send_due_members-clause-same : goal.returns-in_err-send_due_members-clause-same
returns-in_err-send_due_members-clause-same g c =
    let sent = g.S.LineSink.sent in
    let a = c.args.self.now in
    let none = c.in_ok-send_due_sums.ensures.ok in
    let none' = c.in_ok-send_due_levels.ensures.ok in
    let rest = take a.due.timings (held_timings a.timings.entries) in
    let members = take a.due.members (held_members a.members.entries) in
    let levels = take a.due.levels (held_levels a.levels.entries) in
    let left = take c.send_due_members.new.due (held_members c.send_due_members.new.members.entries) in
    rw (none, none') (next (sent c.args.sink.now) (sent c.send_due_sums.new.sink) (sent c.send_due_members.new.sink)
    (take a.due.sums (held_sums a.sums.entries)) (left ++ rest) (levels ++ (members ++ rest))
    (rw none at c.in_ok-send_due_sums.ensures.same)
    (next (sent c.send_due_sums.new.sink) (sent c.send_due_levels.new.sink) (sent c.send_due_members.new.sink)
    levels (left ++ rest) (members ++ rest)
    (rw none' at c.in_ok-send_due_levels.ensures.same)
    (one (sent c.send_due_levels.new.sink) (sent c.send_due_members.new.sink) members left rest c.in_err-send_due_members.ensures.same)))

pub returns-in_err-send_due_members-clause-leads : goal.returns-in_err-send_due_members-clause-leads
returns-in_err-send_due_members-clause-leads g c =
    let first = g.met.S.LineSink.leads_further _ _ _ _ c.in_ok-send_due_sums.ensures.leads c.in_ok-send_due_levels.ensures.leads in
    search (rules, first, g.met.S.LineSink.leads_further)

pub returns-clause-same : goal.returns-clause-same
returns-clause-same g c =
    let sent = g.S.LineSink.sent in
    let a = c.args.self.now in
    let none = c.in_ok-send_due_sums.ensures.ok in
    let none' = c.in_ok-send_due_levels.ensures.ok in
    let none'' = c.in_ok-send_due_members.ensures.ok in
    let timings = take a.due.timings (held_timings a.timings.entries) in
    let members = take a.due.members (held_members a.members.entries) in
    let levels = take a.due.levels (held_levels a.levels.entries) in
    let left = take c.send_due_timings.new.due (held_timings c.send_due_timings.new.timings.entries) in
    rw (none, none', none'') (next (sent c.args.sink.now) (sent c.send_due_sums.new.sink) (sent c.send_due_timings.new.sink)
    (take a.due.sums (held_sums a.sums.entries)) left (levels ++ (members ++ timings))
    (rw none at c.in_ok-send_due_sums.ensures.same)
    (next (sent c.send_due_sums.new.sink) (sent c.send_due_levels.new.sink) (sent c.send_due_timings.new.sink)
    levels left (members ++ timings)
    (rw none' at c.in_ok-send_due_levels.ensures.same)
    (next (sent c.send_due_levels.new.sink) (sent c.send_due_members.new.sink) (sent c.send_due_timings.new.sink)
    members left timings
    (rw none'' at c.in_ok-send_due_members.ensures.same) c.send_due_timings.ensures.same)))

pub returns-clause-leads : goal.returns-clause-leads
returns-clause-leads g c =
    g.met.S.LineSink.leads_further _ _ _ _
    (g.met.S.LineSink.leads_further _ _ _ _ (g.met.S.LineSink.leads_further _ _ _ _ c.in_ok-send_due_sums.ensures.leads c.in_ok-send_due_levels.ensures.leads) c.in_ok-send_due_members.ensures.leads)
    c.send_due_timings.ensures.leads
