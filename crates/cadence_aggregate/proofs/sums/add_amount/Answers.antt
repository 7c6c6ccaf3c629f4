use Rattle.std.specs.Option.{ok_or}
use Rattle.std.specs.Prelude.{String, string_bytes}
use Rattle.std.proofs.Common.{◌≡◌, ◌++◌, ◌∷◌, ◌<◌, [], length, refl, rules, sym, ap, ◌∙◌, arith}
use Rattle.std.specs.Prelude.{◌+ℤ◌, ℤ}
use Rattle.std.proofs.Common.{Global, Bool}
use Rattle.std.proofs.lemmas.Int.{to_z-of_z, ints}
use mir.Syntax.{w64}
use mir.Val.{SFits, to_z, of_z}
use Rattle.cadence_aggregate.specs.Server.{Sample, amount}
use Rattle.cadence_aggregate.specs.Held.{held_sums}
use Rattle.cadence_aggregate.proofs.InPlace.{sums_placed}
use Rattle.cadence_aggregate.proofs.Observed.{same_of}
use Rattle.cadence_aggregate.proofs.Tables.{has_context, its_context, put_said, room_after, on_err}
use Rattle.cadence_aggregate.proofs.SumSteps.{raised, restarted, unwritten}
use Rattle.cadence_aggregate.proofs.Within.{within_both}
use Rattle.cadence_aggregate.proofs.sums.add_amount.Goals as goal
use Rattle.cadence_aggregate.proofs.sums.add_amount.Goals.{then-len-get+in_ok-send_oldest, else-len-get}

pub returns-in_err-send-in-None-clause-err : goal.returns-in_err-send-in-None-clause-err
returns-in_err-send-in-None-clause-err g c =
    let t : String Global → Bool = has_context c.args.context.now in
    let found = sym c.in-Some.ensures.value in
    let said = g.S.LineSink.sent c.args.sink.now in
    on_err (ok_or c.from_residual.result c.send.new.fault) (rw c.in_err-send-in-None.ensures.err
    (sums_placed t _ said c.args.sums.now.entries c.in-Some.sum.now c.in-Some.sum.now found
    (unwritten t c.args.context.now (its_context c.args.context.now) said c.args.sums.now.entries c.in-Some.sum.now c.args.by found)))

pub returns-in-Some-checked_add-clause-ok : goal.returns-in-Some-checked_add-clause-ok
returns-in-Some-checked_add-clause-ok g c =
    let t : String Global → Bool = has_context c.args.context.now in
    let fits : SFits w64 c.in-Some-checked_add.more = search rules in
    let old : SFits w64 c.in-Some.sum.now = search rules in
    let sum : to_z w64 (of_z w64 c.in-Some-checked_add.more) ≡ c.in-Some.sum.now +ℤ c.args.by = grind (arith, ints, c.in-Some-checked_add.ensures) in
    let found = sym c.in-Some.ensures.value in
    let said = g.S.LineSink.sent c.args.sink.now in
    let more = to_z w64 (of_z w64 c.in-Some-checked_add.more) in
    sums_placed t _ said c.args.sums.now.entries c.in-Some.sum.now more found
    (raised t c.args.context.now (its_context c.args.context.now) said c.args.sums.now.entries c.in-Some.sum.now c.args.by found more sum)

pub returns-in_ok-send-in-None-clause-ok : goal.returns-in_ok-send-in-None-clause-ok
returns-in_ok-send-in-None-clause-ok g c =
    let t : String Global → Bool = has_context c.args.context.now in
    let old : SFits w64 c.in-Some.sum.now = search rules in
    let found = sym c.in-Some.ensures.value in
    let said = g.S.LineSink.sent c.args.sink.now in
    rw (c.in_ok-send-in-None.ensures.ok, to_z-of_z w64 c.in-Some.sum.now old, to_z-of_z w64 c.args.by c.ranges.by)
    (sums_placed t _ (said ++ amount c.args.context.now c.in-Some.sum.now ∷ []) c.args.sums.now.entries c.in-Some.sum.now c.args.by found
    (restarted t c.args.context.now (its_context c.args.context.now) said c.args.sums.now.entries c.in-Some.sum.now c.args.by found))

pub returns-clause-ok : goal.returns-clause-ok
returns-clause-ok g c =
    let none = sym c.in_default.ensures.value in
    let said = g.S.LineSink.sent c.args.sink.now in
    let old = c.args.sums.now in
    let say : String Global × ℤ → Sample = λ e. amount (string_bytes e.0) e.1 in
    let by : to_z w64 (of_z w64 c.args.by) ≡ c.args.by = to_z-of_z w64 c.args.by c.ranges.by in
    elim c.if-len-get.branch [
      | then-len-get+in_ok-send_oldest w ↦
          let s = w.in_ok-send_oldest.ensures in
          let room = room_after c.args.context.now old c.if-len-get.sums (w.sums-is ∙ s.ok) c.len.ensures.valid.1 c.len.ensures.valid.2 none in
          let h : g.S.LineSink.sent c.if-len-get.sink ++ held_sums c.if-len-get.sums.entries ≡ said ++ held_sums old.entries = rw (w.sums-is, w.sink-is) s.same in
          let e = put_said say c.args.context.now c.if-len-get.sums c.put_entry.new.table c.in_ok-key.key c.args.by said (g.S.LineSink.sent c.if-len-get.sink) old.entries room.1 c.in_ok-key.ensures.ok room.0 h (rw by at c.in_ok-put_entry.ensures.entries) in
          same_of _ _ (sym (e ∙ ap (λ t. (said ++ held_sums old.entries) ++ amount t c.args.by ∷ []) c.in_ok-key.ensures.ok))
      | else-len-get w ↦
          let room : length old.entries < old.cap = omega (arith, c.len.ensures.valid.1) in
          let same : c.if-len-get.sums ≡ old = w.sums-is in
          let h : g.S.LineSink.sent c.if-len-get.sink ++ held_sums c.if-len-get.sums.entries ≡ said ++ held_sums old.entries = rw (w.sums-is, w.sink-is) refl in
          let e = put_said say c.args.context.now c.if-len-get.sums c.put_entry.new.table c.in_ok-key.key c.args.by said (g.S.LineSink.sent c.if-len-get.sink) old.entries (rw same none) c.in_ok-key.ensures.ok (rw same room) h (rw by at c.in_ok-put_entry.ensures.entries) in
          same_of _ _ (sym (e ∙ ap (λ t. (said ++ held_sums old.entries) ++ amount t c.args.by ∷ []) c.in_ok-key.ensures.ok))
    ]

pub returns-in_ok-send-in-None-clause-within : goal.returns-in_ok-send-in-None-clause-within
returns-in_ok-send-in-None-clause-within g c =
    λ most within. rw c.in_ok-send-in-None.ensures.ok (within_both most (g.S.LineSink.sent c.args.sink.now) _ within tt)

pub returns-in_err-put_entry-clause-within : goal.returns-in_err-put_entry-clause-within
returns-in_err-put_entry-clause-within g c =
    elim c.if-len-get.branch [
      | then-len-get+in_ok-send_oldest w ↦ rw w.sink-is w.in_ok-send_oldest.ensures.within
      | else-len-get w ↦ rw w.sink-is (λ most within. within)
    ]

pub returns-clause-within : goal.returns-clause-within
returns-clause-within g c =
    elim c.if-len-get.branch [
      | then-len-get+in_ok-send_oldest w ↦ rw w.sink-is w.in_ok-send_oldest.ensures.within
      | else-len-get w ↦ rw w.sink-is (λ most within. within)
    ]
