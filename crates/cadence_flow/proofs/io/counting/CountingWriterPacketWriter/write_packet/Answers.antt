use Rattle.cadence_flow.proofs.WriterSums.{counted_answer}
use Rattle.cadence_flow.proofs.io.counting.CountingWriterPacketWriter.write_packet.Goals as goal

pub returns-clause-same_kind : goal.returns-clause-same_kind
returns-clause-same_kind g c =
    let call = c.write_packet-result.ensures in
    counted_answer _ _ _ _ _ _ c.args.packet.now c.write_packet-result.result call.same_kind call.writes c.add_answer.ensures
