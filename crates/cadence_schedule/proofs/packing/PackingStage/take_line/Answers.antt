use Rattle.std.proofs.Common.{◌≡◌, ◌≢◌, ◌∷◌, ◌∙◌, [], ℕ, List, Ok, arith, inl, subst, sym, true}
use Rattle.cadence_flow.specs.Frame.{Format}
use Rattle.cadence_flow.specs.Packer.{WritesLine}
use Rattle.cadence_stage.specs.Call.{Line}
use Rattle.cadence_schedule.specs.Cut.{Counted, CountsLine, HasLast, joins_held}
use Rattle.cadence_schedule.specs.PackedRuns.{Packs, view_of}
use Rattle.cadence_schedule.proofs.packing.PackingStage.take_line.Goals as goal

-- A line joins only if a text is held.
held_if_joined : (format : Format) (held line : List ℕ) → joins_held format held line ≡ true → held ≢ []
held_if_joined format [] line joined none = absurd cc
held_if_joined format (byte ∷ held) line joined none = absurd cc

pub returns-clause-step : goal.returns-clause-step
returns-clause-step g c =
    let kind = g.P.PacketWriter.kind in
    let history = g.P.PacketWriter.history in
    let old = c.args.self.now in
    let line = c.args.line.now in
    let format = old.packer.format in
    let held = old.packer.held in
    let cut = c.count_line.new.cut.items in
    let new = record old { packer = c.write.new.self; cut = c.count_line.new.cut; kept = c.note.new.self } in
    let w : WritesLine kind history old.packer new.packer line (Ok c.in_ok-count.count) =
    subst (λ l. WritesLine kind history old.packer new.packer l (Ok c.in_ok-count.count)) c.as_bytes.ensures.value c.in_ok-count.ensures.writes in
    let same = c.in-Ok.ensures.items in
    let joins = c.joins_held-joins.ensures in
    let counts : CountsLine format held line (Ok c.in_ok-count.count) old.cut.items cut =
    λ last. subst (λ before. Counted (joins_held format held line) before cut) same
    (subst (λ b. Counted b c.reserve.new.self.items cut) joins
    (c.count_line.ensures.counted (λ joined. subst HasLast (sym same) (last (held_if_joined format held line (sym joins ∙ joined)))))) in
    let packs : Packs kind history (view_of old) (Line line (Ok c.in_ok-count.count)) (view_of new) =
    record { same_kind = w.same_kind; same_format = w.same_format; moves = (w.writes, counts) } in
    record { packs = inl packs; room = omega (arith, c.in-Ok.ensures.len, c.in-Ok.ensures.capacity, c.count_line.ensures.length, c.count_line.ensures.room) }
