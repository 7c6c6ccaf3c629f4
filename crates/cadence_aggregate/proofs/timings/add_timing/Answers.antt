use Rattle.std.specs.Option.{ok_or}
use Rattle.std.specs.Prelude.{String, string_bytes}
use Rattle.std.proofs.Common.{◌≡◌, ◌++◌, ◌∷◌, ◌<◌, [], length, length-append, refl, sym, ap, ◌∙◌, arith, Global, Bool}
use Rattle.cadence_aggregate.specs.Server.{Sample, timing}
use Rattle.cadence_aggregate.specs.Held.{held_timings}
use Rattle.cadence_aggregate.specs.Within.{if_ok}
use Rattle.cadence_aggregate.proofs.InPlace.{timings_placed, timings_stay}
use Rattle.cadence_aggregate.proofs.Observed.{same_of}
use Rattle.cadence_aggregate.proofs.Tables.{has_context, its_context, put_said, room_after, on_err}
use Rattle.cadence_aggregate.proofs.TimingSteps.{appended, restarted, unwritten}
use Rattle.cadence_aggregate.proofs.Within.{appended_within, restarted_within, stay_same, unwritten_within}
use Rattle.cadence_aggregate.proofs.timings.add_timing.Goals as goal
use Rattle.cadence_aggregate.proofs.timings.add_timing.Goals.{then-len-get+in_ok-send_oldest, else-len-get}

pub returns-in_err-append_values-clause-err : goal.returns-in_err-append_values-clause-err
returns-in_err-append_values-clause-err g c =
    let t : String Global → Bool = has_context c.args.context.now in
    on_err (ok_or c.from_residual.result c.append_values.new.fault) (timings_placed t _ (g.S.LineSink.sent c.args.sink.now) c.args.timings.now.entries c.in-Some.text.now c.append_values.new.text (sym c.in-Some.ensures.value)
    (unwritten t c.args.context.now (its_context c.args.context.now) (g.S.LineSink.sent c.args.sink.now) c.args.timings.now.entries c.in-Some.text.now c.append_values.new.text (sym c.in-Some.ensures.value) c.in_err-append_values.ensures.err))

pub returns-in_err-fresh-clause-err : goal.returns-in_err-fresh-clause-err
returns-in_err-fresh-clause-err g c =
    let t : String Global → Bool = has_context c.args.context.now in
    on_err (ok_or c.from_residual-in_err-fresh.result c.copy_text.new.fault) (timings_placed t _ (g.S.LineSink.sent c.args.sink.now) c.args.timings.now.entries c.in-Some.text.now c.in-Some.text.now (sym c.in-Some.ensures.value)
    (unwritten t c.args.context.now (its_context c.args.context.now) (g.S.LineSink.sent c.args.sink.now) c.args.timings.now.entries c.in-Some.text.now c.in-Some.text.now (sym c.in-Some.ensures.value) refl))

pub returns-in_err-send-clause-err : goal.returns-in_err-send-clause-err
returns-in_err-send-clause-err g c =
    let t : String Global → Bool = has_context c.args.context.now in
    on_err (ok_or c.from_residual-in_err-send.result c.send.new.fault) (rw c.in_err-send.ensures.err (timings_placed t _ (g.S.LineSink.sent c.args.sink.now) c.args.timings.now.entries c.in-Some.text.now c.in-Some.text.now (sym c.in-Some.ensures.value)
    (unwritten t c.args.context.now (its_context c.args.context.now) (g.S.LineSink.sent c.args.sink.now) c.args.timings.now.entries c.in-Some.text.now c.in-Some.text.now (sym c.in-Some.ensures.value) refl)))

pub returns-in_ok-append_values-clause-ok : goal.returns-in_ok-append_values-clause-ok
returns-in_ok-append_values-clause-ok g c =
    let t : String Global → Bool = has_context c.args.context.now in
    timings_placed t _ (g.S.LineSink.sent c.args.sink.now) c.args.timings.now.entries c.in-Some.text.now c.append_values.new.text (sym c.in-Some.ensures.value)
    (appended t c.args.context.now (its_context c.args.context.now) (g.S.LineSink.sent c.args.sink.now) c.args.timings.now.entries c.in-Some.text.now c.append_values.new.text (sym c.in-Some.ensures.value) c.args.values.now c.in_ok-append_values.ensures.ok)

pub returns-in_ok-send-clause-ok : goal.returns-in_ok-send-clause-ok
returns-in_ok-send-clause-ok g c =
    let t : String Global → Bool = has_context c.args.context.now in
    rw (c.in_ok-send.ensures.ok, c.as_str-else-fits.ensures.value)
    (timings_placed t _ (g.S.LineSink.sent c.args.sink.now ++ timing c.args.context.now (string_bytes c.in-Some.text.now) ∷ []) c.args.timings.now.entries c.in-Some.text.now c.in_ok-fresh.fresh (sym c.in-Some.ensures.value)
    (restarted t c.args.context.now (its_context c.args.context.now) (g.S.LineSink.sent c.args.sink.now) c.args.timings.now.entries c.in-Some.text.now c.in_ok-fresh.fresh (sym c.in-Some.ensures.value) c.args.values.now c.in_ok-fresh.ensures.ok))

pub returns-clause-ok : goal.returns-clause-ok
returns-clause-ok g c =
    let none = sym c.in_default.ensures.value in
    let said = g.S.LineSink.sent c.args.sink.now in
    let old = c.args.timings.now in
    let say : String Global × String Global → Sample = λ e. timing (string_bytes e.0) (string_bytes e.1) in
    elim c.if-len-get.branch [
      | then-len-get+in_ok-send_oldest w ↦
          let s = w.in_ok-send_oldest.ensures in
          let room = room_after c.args.context.now old c.if-len-get.timings (w.timings-is ∙ s.ok) c.len.ensures.valid.1 c.len.ensures.valid.2 none in
          let h : g.S.LineSink.sent c.if-len-get.sink ++ held_timings c.if-len-get.timings.entries ≡ said ++ held_timings old.entries = rw (w.timings-is, w.sink-is) s.same in
          let e = put_said say c.args.context.now c.if-len-get.timings c.put_entry.new.table c.in_ok-key.key c.in_ok-text.text said (g.S.LineSink.sent c.if-len-get.sink) old.entries room.1 c.in_ok-key.ensures.ok room.0 h c.in_ok-put_entry.ensures.entries in
          same_of _ _ (sym (e ∙ ap (λ t. (said ++ held_timings old.entries) ++ timing t (string_bytes c.in_ok-text.text) ∷ []) c.in_ok-key.ensures.ok ∙ ap (λ t. (said ++ held_timings old.entries) ++ timing c.args.context.now t ∷ []) c.in_ok-text.ensures.ok))
      | else-len-get w ↦
          let room : length old.entries < old.cap = omega (arith, c.len.ensures.valid.1) in
          let same : c.if-len-get.timings ≡ old = w.timings-is in
          let h : g.S.LineSink.sent c.if-len-get.sink ++ held_timings c.if-len-get.timings.entries ≡ said ++ held_timings old.entries = rw (w.timings-is, w.sink-is) refl in
          let e = put_said say c.args.context.now c.if-len-get.timings c.put_entry.new.table c.in_ok-key.key c.in_ok-text.text said (g.S.LineSink.sent c.if-len-get.sink) old.entries (rw same none) c.in_ok-key.ensures.ok (rw same room) h c.in_ok-put_entry.ensures.entries in
          same_of _ _ (sym (e ∙ ap (λ t. (said ++ held_timings old.entries) ++ timing t (string_bytes c.in_ok-text.text) ∷ []) c.in_ok-key.ensures.ok ∙ ap (λ t. (said ++ held_timings old.entries) ++ timing c.args.context.now t ∷ []) c.in_ok-text.ensures.ok))
    ]

pub returns-in_err-append_values-clause-within : goal.returns-in_err-append_values-clause-within
returns-in_err-append_values-clause-within g c =
    let t : String Global → Bool = has_context c.args.context.now in
    timings_stay t ((g.S.LineSink.sent c.args.sink.now ++ held_timings c.args.timings.now.entries) ++ if_ok (ok_or c.from_residual.result c.append_values.new.fault) (timing c.args.context.now c.args.values.now ∷ [])) (g.S.LineSink.sent c.args.sink.now) c.args.most c.args.timings.now.entries c.in-Some.text.now c.append_values.new.text (sym c.in-Some.ensures.value)
    (unwritten_within t c.args.context.now (its_context c.args.context.now) c.args.timings.now.entries c.in-Some.text.now c.append_values.new.text (sym c.in-Some.ensures.value) c.args.most (g.S.LineSink.sent c.args.sink.now)
    (ok_or c.from_residual.result c.append_values.new.fault) (timing c.args.context.now c.args.values.now ∷ []) c.in_err-append_values.ensures.err)

pub returns-in_err-fresh-clause-within : goal.returns-in_err-fresh-clause-within
returns-in_err-fresh-clause-within g c =
    let t : String Global → Bool = has_context c.args.context.now in
    timings_stay t ((g.S.LineSink.sent c.args.sink.now ++ held_timings c.args.timings.now.entries) ++ if_ok (ok_or c.from_residual-in_err-fresh.result c.copy_text.new.fault) (timing c.args.context.now c.args.values.now ∷ [])) (g.S.LineSink.sent c.args.sink.now) c.args.most c.args.timings.now.entries c.in-Some.text.now c.in-Some.text.now (sym c.in-Some.ensures.value)
    (unwritten_within t c.args.context.now (its_context c.args.context.now) c.args.timings.now.entries c.in-Some.text.now c.in-Some.text.now (sym c.in-Some.ensures.value) c.args.most (g.S.LineSink.sent c.args.sink.now)
    (ok_or c.from_residual-in_err-fresh.result c.copy_text.new.fault) (timing c.args.context.now c.args.values.now ∷ []) refl)

pub returns-in_err-send-clause-within : goal.returns-in_err-send-clause-within
returns-in_err-send-clause-within g c =
    let t : String Global → Bool = has_context c.args.context.now in
    rw c.in_err-send.ensures.err
    (timings_stay t ((g.S.LineSink.sent c.args.sink.now ++ held_timings c.args.timings.now.entries) ++ if_ok (ok_or c.from_residual-in_err-send.result c.send.new.fault) (timing c.args.context.now c.args.values.now ∷ [])) (g.S.LineSink.sent c.args.sink.now) c.args.most c.args.timings.now.entries c.in-Some.text.now c.in-Some.text.now (sym c.in-Some.ensures.value)
    (unwritten_within t c.args.context.now (its_context c.args.context.now) c.args.timings.now.entries c.in-Some.text.now c.in-Some.text.now (sym c.in-Some.ensures.value) c.args.most (g.S.LineSink.sent c.args.sink.now)
    (ok_or c.from_residual-in_err-send.result c.send.new.fault) (timing c.args.context.now c.args.values.now ∷ []) refl))

pub returns-in_ok-append_values-clause-within : goal.returns-in_ok-append_values-clause-within
returns-in_ok-append_values-clause-within g c =
    let t : String Global → Bool = has_context c.args.context.now in
    let size = ap (λ u. length u) c.in_ok-append_values.ensures.ok ∙ length-append (string_bytes c.in-Some.text.now) (58 ∷ c.args.values.now) in
    let fits = c.fits.ensures.fits c.if-fits.true in
    timings_stay t ((g.S.LineSink.sent c.args.sink.now ++ held_timings c.args.timings.now.entries) ++ timing c.args.context.now c.args.values.now ∷ []) (g.S.LineSink.sent c.args.sink.now) c.args.most c.args.timings.now.entries c.in-Some.text.now c.append_values.new.text (sym c.in-Some.ensures.value)
    (appended_within t c.args.context.now (its_context c.args.context.now) c.args.timings.now.entries c.in-Some.text.now c.append_values.new.text (sym c.in-Some.ensures.value) c.args.most (g.S.LineSink.sent c.args.sink.now)
    (timing c.args.context.now c.args.values.now ∷ []) (omega (arith, size, rw c.as_str.ensures.value at fits)))

pub returns-in_ok-send-clause-within : goal.returns-in_ok-send-clause-within
returns-in_ok-send-clause-within g c =
    let t : String Global → Bool = has_context c.args.context.now in
    rw (c.in_ok-send.ensures.ok, c.as_str-else-fits.ensures.value)
    (timings_stay t ((g.S.LineSink.sent c.args.sink.now ++ held_timings c.args.timings.now.entries) ++ timing c.args.context.now c.args.values.now ∷ []) (g.S.LineSink.sent c.args.sink.now ++ timing c.args.context.now (string_bytes c.in-Some.text.now) ∷ []) c.args.most c.args.timings.now.entries c.in-Some.text.now c.in_ok-fresh.fresh (sym c.in-Some.ensures.value)
    (restarted_within t c.args.context.now (its_context c.args.context.now) c.args.timings.now.entries c.in-Some.text.now c.in_ok-fresh.fresh (sym c.in-Some.ensures.value) c.args.most (g.S.LineSink.sent c.args.sink.now) c.args.values.now c.in_ok-fresh.ensures.ok))

pub returns-clause-within : goal.returns-clause-within
returns-clause-within g c =
    let none = sym c.in_default.ensures.value in
    let said = g.S.LineSink.sent c.args.sink.now in
    let old = c.args.timings.now in
    let say : String Global × String Global → Sample = λ e. timing (string_bytes e.0) (string_bytes e.1) in
    elim c.if-len-get.branch [
      | then-len-get+in_ok-send_oldest w ↦
          let s = w.in_ok-send_oldest.ensures in
          let room = room_after c.args.context.now old c.if-len-get.timings (w.timings-is ∙ s.ok) c.len.ensures.valid.1 c.len.ensures.valid.2 none in
          let h : g.S.LineSink.sent c.if-len-get.sink ++ held_timings c.if-len-get.timings.entries ≡ said ++ held_timings old.entries = rw (w.timings-is, w.sink-is) s.same in
          let e = put_said say c.args.context.now c.if-len-get.timings c.put_entry.new.table c.in_ok-key.key c.in_ok-text.text said (g.S.LineSink.sent c.if-len-get.sink) old.entries room.1 c.in_ok-key.ensures.ok room.0 h c.in_ok-put_entry.ensures.entries in
          stay_same c.args.most _ _ (e ∙ ap (λ t. (said ++ held_timings old.entries) ++ timing t (string_bytes c.in_ok-text.text) ∷ []) c.in_ok-key.ensures.ok ∙ ap (λ t. (said ++ held_timings old.entries) ++ timing c.args.context.now t ∷ []) c.in_ok-text.ensures.ok)
      | else-len-get w ↦
          let room : length old.entries < old.cap = omega (arith, c.len.ensures.valid.1) in
          let same : c.if-len-get.timings ≡ old = w.timings-is in
          let h : g.S.LineSink.sent c.if-len-get.sink ++ held_timings c.if-len-get.timings.entries ≡ said ++ held_timings old.entries = rw (w.timings-is, w.sink-is) refl in
          let e = put_said say c.args.context.now c.if-len-get.timings c.put_entry.new.table c.in_ok-key.key c.in_ok-text.text said (g.S.LineSink.sent c.if-len-get.sink) old.entries (rw same none) c.in_ok-key.ensures.ok (rw same room) h c.in_ok-put_entry.ensures.entries in
          stay_same c.args.most _ _ (e ∙ ap (λ t. (said ++ held_timings old.entries) ++ timing t (string_bytes c.in_ok-text.text) ∷ []) c.in_ok-key.ensures.ok ∙ ap (λ t. (said ++ held_timings old.entries) ++ timing c.args.context.now t ∷ []) c.in_ok-text.ensures.ok)
    ]
