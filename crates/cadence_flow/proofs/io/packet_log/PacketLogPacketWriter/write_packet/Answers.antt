use Rattle.std.proofs.Common.{sym, ◌∙◌, rules}
use Rattle.cadence_flow.proofs.LogScript.{no_short_next}
use Rattle.cadence_flow.proofs.io.packet_log.PacketLogPacketWriter.write_packet.Goals as goal
use Rattle.cadence_flow.proofs.io.packet_log.PacketLogPacketWriter.write_packet.Goals.{in-Whole, in-Short}

pub returns-clause-writes : goal.returns-clause-writes
returns-clause-writes g c =
    record {
      count = search rules;
      whole = λ no_short.
          elim c.match-take_answer.branch [
            | in-Whole w ↦ w.count-is
            | in-Short w ↦ absurd (no_short_next c.args.self.now.script c.args.self.now.used _ no_short (sym c.take_answer.ensures.answer
                ∙ w.in-Short.is))
          ];
      taken = λ t. search rules;
      kept = search rules;
      may_give = search rules;
      refused = search rules;
    }
