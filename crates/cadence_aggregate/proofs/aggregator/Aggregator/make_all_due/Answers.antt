use Rattle.std.proofs.Common.{◌++◌, sym, ap₂, ◌∙◌}
use Rattle.std.specs.Prelude.{string_bytes}
use Rattle.cadence_aggregate.specs.Held.{held_sums, held_levels, held_members, held_timings}
use Rattle.cadence_aggregate.specs.Server.{amount, level, member, timing}
use Rattle.cadence_aggregate.proofs.InTurn.{all_after}
use Rattle.cadence_aggregate.proofs.Tables.{all_due}
use Rattle.cadence_aggregate.proofs.aggregator.Aggregator.make_all_due.Goals as goal

pub returns-clause-first : goal.returns-clause-first
returns-clause-first c =
    let a = c.args.self.now in
    let e = c.lengths-self.ensures in
    let s = all_due (λ e. amount (string_bytes e.0) e.1) a.sums.entries c.lengths-self.result.sums e.sums in
    let l = all_due (λ e. level (string_bytes e.0) (string_bytes e.1)) a.levels.entries c.lengths-self.result.levels e.levels in
    let m = all_due (λ e. member (string_bytes e.0)) a.members.entries c.lengths-self.result.members e.members in
    let t = all_due (λ e. timing (string_bytes e.0) (string_bytes e.1)) a.timings.entries c.lengths-self.result.timings e.timings in
    ap₂ (λ x y. x ++ y) s.0 (ap₂ (λ x y. x ++ y) l.0 (ap₂ (λ x y. x ++ y) m.0 t.0))
    ∙ sym (all_after a.due (held_sums a.sums.entries) (held_levels a.levels.entries) (held_members a.members.entries) (held_timings a.timings.entries) c.requires)

pub returns-clause-after : goal.returns-clause-after
returns-clause-after c =
    let a = c.args.self.now in
    let e = c.lengths-self.ensures in
    let s = all_due (λ e. amount (string_bytes e.0) e.1) a.sums.entries c.lengths-self.result.sums e.sums in
    let l = all_due (λ e. level (string_bytes e.0) (string_bytes e.1)) a.levels.entries c.lengths-self.result.levels e.levels in
    let m = all_due (λ e. member (string_bytes e.0)) a.members.entries c.lengths-self.result.members e.members in
    let t = all_due (λ e. timing (string_bytes e.0) (string_bytes e.1)) a.timings.entries c.lengths-self.result.timings e.timings in
    ap₂ (λ x y. x ++ y) s.1 (ap₂ (λ x y. x ++ y) l.1 (ap₂ (λ x y. x ++ y) m.1 t.1))
