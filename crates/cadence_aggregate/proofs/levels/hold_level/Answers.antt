use Rattle.std.specs.Prelude.{String, string_bytes}
use Rattle.std.proofs.Common.{◌≡◌, ◌++◌, ◌∷◌, ◌<◌, [], length, refl, sym, ap, ◌∙◌, arith, Global, Bool}
use Rattle.cadence_aggregate.specs.Server.{Sample, level}
use Rattle.cadence_aggregate.specs.Held.{held_levels}
use Rattle.cadence_aggregate.proofs.Observed.{same_of}
use Rattle.cadence_aggregate.proofs.Tables.{has_context, its_context, put_said, room_after}
use Rattle.cadence_aggregate.proofs.OtherSteps.{level_put}
use Rattle.cadence_aggregate.proofs.levels.hold_level.Goals as goal
use Rattle.cadence_aggregate.proofs.levels.hold_level.Goals.{then-len-get+in_ok-send_oldest, else-len-get}

pub returns-in-Some-clause-ok : goal.returns-in-Some-clause-ok
returns-in-Some-clause-ok g c =
    let t : String Global → Bool = has_context c.args.context.now in
    level_put t c.args.context.now (its_context c.args.context.now) (g.S.LineSink.sent c.args.sink.now) c.args.levels.now.entries c.in-Some.held.now c.in_ok-fresh.fresh (sym c.in-Some.ensures.value) c.args.value.now c.in_ok-fresh.ensures.ok c.requires

pub returns-clause-ok : goal.returns-clause-ok
returns-clause-ok g c =
    let none = sym c.in_default.ensures.value in
    let said = g.S.LineSink.sent c.args.sink.now in
    let old = c.args.levels.now in
    let say : String Global × String Global → Sample = λ e. level (string_bytes e.0) (string_bytes e.1) in
    elim c.if-len-get.branch [
      | then-len-get+in_ok-send_oldest w ↦
          let s = w.in_ok-send_oldest.ensures in
          let room = room_after c.args.context.now old c.if-len-get.levels (w.levels-is ∙ s.ok) c.len.ensures.valid.1 c.len.ensures.valid.2 none in
          let h : g.S.LineSink.sent c.if-len-get.sink ++ held_levels c.if-len-get.levels.entries ≡ said ++ held_levels old.entries = rw (w.levels-is, w.sink-is) s.same in
          let e = put_said say c.args.context.now c.if-len-get.levels c.put_entry.new.table c.in_ok-key.key c.in_ok-fresh.fresh said (g.S.LineSink.sent c.if-len-get.sink) old.entries room.1 c.in_ok-key.ensures.ok room.0 h c.in_ok-put_entry.ensures.entries in
          same_of _ _ (sym (e ∙ ap (λ t. (said ++ held_levels old.entries) ++ level t (string_bytes c.in_ok-fresh.fresh) ∷ []) c.in_ok-key.ensures.ok ∙ ap (λ t. (said ++ held_levels old.entries) ++ level c.args.context.now t ∷ []) c.in_ok-fresh.ensures.ok))
      | else-len-get w ↦
          let room : length old.entries < old.cap = omega (arith, c.len.ensures.valid.1) in
          let same : c.if-len-get.levels ≡ old = w.levels-is in
          let h : g.S.LineSink.sent c.if-len-get.sink ++ held_levels c.if-len-get.levels.entries ≡ said ++ held_levels old.entries = rw (w.levels-is, w.sink-is) refl in
          let e = put_said say c.args.context.now c.if-len-get.levels c.put_entry.new.table c.in_ok-key.key c.in_ok-fresh.fresh said (g.S.LineSink.sent c.if-len-get.sink) old.entries (rw same none) c.in_ok-key.ensures.ok (rw same room) h c.in_ok-put_entry.ensures.entries in
          same_of _ _ (sym (e ∙ ap (λ t. (said ++ held_levels old.entries) ++ level t (string_bytes c.in_ok-fresh.fresh) ∷ []) c.in_ok-key.ensures.ok ∙ ap (λ t. (said ++ held_levels old.entries) ++ level c.args.context.now t ∷ []) c.in_ok-fresh.ensures.ok))
    ]

pub returns-in_err-put_entry-clause-within : goal.returns-in_err-put_entry-clause-within
returns-in_err-put_entry-clause-within g c =
    elim c.if-len-get.branch [
      | then-len-get+in_ok-send_oldest w ↦ rw w.sink-is w.in_ok-send_oldest.ensures.within
      | else-len-get w ↦ rw w.sink-is (λ most within. within)
    ]

pub returns-clause-within : goal.returns-clause-within
returns-clause-within g c =
    elim c.if-len-get.branch [
      | then-len-get+in_ok-send_oldest w ↦ rw w.sink-is w.in_ok-send_oldest.ensures.within
      | else-len-get w ↦ rw w.sink-is (λ most within. within)
    ]
