use Rattle.std.specs.Prelude.{String, string_bytes}
use Rattle.std.proofs.Common.{◌≡◌, ◌++◌, ◌∷◌, ◌<◌, [], length, refl, sym, ap, ◌∙◌, arith, Global, Bool}
use Rattle.cadence_aggregate.specs.Server.{Sample, member}
use Rattle.cadence_aggregate.specs.Held.{held_members}
use Rattle.cadence_aggregate.proofs.Observed.{same_of}
use Rattle.cadence_aggregate.proofs.Tables.{has_context, its_context, put_said, room_after, none_from, some_from}
use Rattle.std.specs.Map.{lookup}
use Rattle.cadence_aggregate.proofs.OtherSteps.{member_known}
use Rattle.cadence_aggregate.proofs.members.add_member.Goals as goal
use Rattle.cadence_aggregate.proofs.members.add_member.Goals.{then-len-get+in_ok-send_oldest, else-len-get}

pub returns-then-contains-clause-ok : goal.returns-then-contains-clause-ok
returns-then-contains-clause-ok g c =
    let t : String Global → Bool = has_context c.args.context.now in
    let found = some_from (lookup t c.args.members.now.entries) (sym c.contains.ensures ∙ c.if-contains.true) in
    member_known t c.args.context.now (its_context c.args.context.now) (g.S.LineSink.sent c.args.sink.now) c.args.members.now.entries found.0 found.1

pub returns-clause-ok : goal.returns-clause-ok
returns-clause-ok g c =
    let none = none_from (lookup (has_context c.args.context.now) c.args.members.now.entries) (sym c.contains.ensures ∙ c.if-contains.false) in
    let said = g.S.LineSink.sent c.args.sink.now in
    let old = c.args.members.now in
    let say : String Global × Unit {0} → Sample = λ e. member (string_bytes e.0) in
    elim c.if-len-get.branch [
      | then-len-get+in_ok-send_oldest w ↦
          let s = w.in_ok-send_oldest.ensures in
          let room = room_after c.args.context.now old c.if-len-get.members (w.members-is ∙ s.ok) c.len.ensures.valid.1 c.len.ensures.valid.2 none in
          let h : g.S.LineSink.sent c.if-len-get.sink ++ held_members c.if-len-get.members.entries ≡ said ++ held_members old.entries = rw (w.members-is, w.sink-is) s.same in
          let e = put_said say c.args.context.now c.if-len-get.members c.put_entry.new.table c.in_ok-key.key tt said (g.S.LineSink.sent c.if-len-get.sink) old.entries room.1 c.in_ok-key.ensures.ok room.0 h c.in_ok-put_entry.ensures.entries in
          same_of _ _ (sym (e ∙ ap (λ t. (said ++ held_members old.entries) ++ member t ∷ []) c.in_ok-key.ensures.ok))
      | else-len-get w ↦
          let room : length old.entries < old.cap = omega (arith, c.len.ensures.valid.1) in
          let same : c.if-len-get.members ≡ old = w.members-is in
          let h : g.S.LineSink.sent c.if-len-get.sink ++ held_members c.if-len-get.members.entries ≡ said ++ held_members old.entries = rw (w.members-is, w.sink-is) refl in
          let e = put_said say c.args.context.now c.if-len-get.members c.put_entry.new.table c.in_ok-key.key tt said (g.S.LineSink.sent c.if-len-get.sink) old.entries (rw same none) c.in_ok-key.ensures.ok (rw same room) h c.in_ok-put_entry.ensures.entries in
          same_of _ _ (sym (e ∙ ap (λ t. (said ++ held_members old.entries) ++ member t ∷ []) c.in_ok-key.ensures.ok))
    ]

pub returns-in_err-put_entry-clause-within : goal.returns-in_err-put_entry-clause-within
returns-in_err-put_entry-clause-within g c =
    elim c.if-len-get.branch [
      | then-len-get+in_ok-send_oldest w ↦ rw w.sink-is w.in_ok-send_oldest.ensures.within
      | else-len-get w ↦ rw w.sink-is (λ most within. within)
    ]

pub returns-clause-within : goal.returns-clause-within
returns-clause-within g c =
    elim c.if-len-get.branch [
      | then-len-get+in_ok-send_oldest w ↦ rw w.sink-is w.in_ok-send_oldest.ensures.within
      | else-len-get w ↦ rw w.sink-is (λ most within. within)
    ]
