use Rattle.std.proofs.Common.{List, map, subst, sym}
use Rattle.std.specs.Option.{ok_or}
use Rattle.cadence_stage.specs.OwnLog.{items_of}
use Rattle.cadence_stage.specs.Call.{call_of}
use Rattle.cadence_flow.specs.Packed.{IsPacked}
use Rattle.cadence_stage.specs.declared.entry.Entry.{Entry}
use Rattle.cadence_flow.proofs.PackerSteps.{packed_flush}
use Rattle.cadence_stage.proofs.Pasts.{logged_more}
use Rattle.cadence_flow.proofs.packer.RecordedPackerStage.empty.Goals as goal

pub invariant_of-self : goal.invariant_of-self
invariant_of-self g c =
    let old = c.args.self.now in
    let sent = c.flush-done in
    let new = sent.new.self in
    let more = packed_flush g.W.PacketWriter.kind g.W.PacketWriter.history old.lines new (ok_or sent.result sent.new.fault)
    sent.ensures.flushes sent.ensures.offers in
    record {
      packed = subst (λ (es : List Entry). ∥ IsPacked new (map call_of es) ∥₁) (sym c.note.ensures.items)
          (logged_more IsPacked old.lines new (items_of old.log) _ _ c.of_flush.ensures more old.packed);
    }
