use Rattle.std.proofs.Common.{◌≡◌, ◌∷◌, ◌++◌, [], subst, true, false}
use Rattle.cadence_stage.specs.OwnLog.{items_of}
use Rattle.cadence_flow.specs.RecordedWriter.{packets_of}
use Rattle.cadence_send.specs.Streams.{fates_in}
use Rattle.cadence_send.proofs.Fates.{fates_more, losses_lost, losses_sent, paired_more}
use Rattle.cadence_send.proofs.lasting.LastingWriter.count.Goals as goal

pub invariant_of-self : goal.invariant_of-self
invariant_of-self g c =
    let old = c.args.self.now in
    let more = fates_more (packets_of old.given) (packets_of c.note_packet.new.packets) (items_of old.are_lost) (items_of c.note.new.self) c.args.packet.now
    true c.note_packet.ensures (subst (λ b. items_of c.note.new.self ≡ items_of old.are_lost ++ b ∷ []) c.if-is_lost.true c.note.ensures.items) old.paired in
    record {
      paired = paired_more (packets_of old.given) (packets_of c.note_packet.new.packets) (items_of old.are_lost) (items_of c.note.new.self) c.args.packet.now
          c.args.is_lost c.note_packet.ensures c.note.ensures.items old.paired;
      counted = losses_lost old.losses (fates_in old) _ c.args.packet.now c.lines_of_packet.result old.counted more c.lines_of_packet.ensures;
    }

pub invariant_of-self-else-is_lost : goal.invariant_of-self-else-is_lost
invariant_of-self-else-is_lost g c =
    let old = c.args.self.now in
    let more = fates_more (packets_of old.given) (packets_of c.note_packet.new.packets) (items_of old.are_lost) (items_of c.note.new.self) c.args.packet.now
    false c.note_packet.ensures (subst (λ b. items_of c.note.new.self ≡ items_of old.are_lost ++ b ∷ []) c.if-is_lost.false c.note.ensures.items) old.paired in
    record {
      paired = paired_more (packets_of old.given) (packets_of c.note_packet.new.packets) (items_of old.are_lost) (items_of c.note.new.self) c.args.packet.now
          c.args.is_lost c.note_packet.ensures c.note.ensures.items old.paired;
      counted = losses_sent old.losses (fates_in old) _ c.args.packet.now old.counted more;
    }

pub returns-then-is_lost-clause-fates : goal.returns-then-is_lost-clause-fates
returns-then-is_lost-clause-fates g c =
    let old = c.args.self.now in
    fates_more (packets_of old.given) (packets_of c.note_packet.new.packets) (items_of old.are_lost) (items_of c.note.new.self) c.args.packet.now
    c.args.is_lost c.note_packet.ensures c.note.ensures.items old.paired

pub returns-else-is_lost-clause-fates : goal.returns-else-is_lost-clause-fates
returns-else-is_lost-clause-fates g c =
    let old = c.args.self.now in
    fates_more (packets_of old.given) (packets_of c.note_packet.new.packets) (items_of old.are_lost) (items_of c.note.new.self) c.args.packet.now
    c.args.is_lost c.note_packet.ensures c.note.ensures.items old.paired
