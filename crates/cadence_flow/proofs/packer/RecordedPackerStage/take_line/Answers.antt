use Rattle.std.proofs.Common.{ℕ, List, [], ◌∷◌, ◌++◌, map, subst, sym}
use Rattle.std.specs.Option.{ok_or}
use Rattle.cadence_stage.specs.OwnLog.{items_of}
use Rattle.cadence_stage.specs.Call.{Call, Line, call_of}
use Rattle.cadence_flow.specs.Packed.{IsPacked}
use Rattle.cadence_stage.specs.declared.entry.Entry.{Entry}
use Rattle.cadence_flow.proofs.PackerSteps.{packed_line}
use Rattle.cadence_stage.proofs.Pasts.{logged_more}
use Rattle.cadence_flow.proofs.packer.RecordedPackerStage.take_line.Goals as goal

pub invariant_of-self : goal.invariant_of-self
invariant_of-self g c =
    let old = c.args.self.now in
    let wrote = c.write-taken in
    let new = wrote.new.self in
    let answer = ok_or wrote.result wrote.new.fault in
    let more : (past : List Call) → IsPacked old.lines past → IsPacked new (past ++ Line c.args.line.now answer ∷ []) =
    λ past was. subst (λ (line : List ℕ). IsPacked new (past ++ Line line answer ∷ [])) c.as_bytes.ensures.value
    (packed_line g.W.PacketWriter.kind g.W.PacketWriter.history old.lines new c.as_bytes.result.now answer wrote.ensures.writes wrote.ensures.offers
    past was) in
    record {
      packed = subst (λ (es : List Entry). ∥ IsPacked new (map call_of es) ∥₁) (sym c.note.ensures.items)
          (logged_more IsPacked old.lines new (items_of old.log) _ _ c.of_line.ensures more old.packed);
    }
