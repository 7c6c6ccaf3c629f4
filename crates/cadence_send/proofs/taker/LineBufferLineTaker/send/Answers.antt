use Rattle.std.specs.Option.{ok_or}
use Rattle.cadence_send.proofs.Feeding.{flush_takes}
use Rattle.cadence_send.proofs.taker.LineBufferLineTaker.send.Goals as goal

pub returns-clause-same : goal.returns-clause-same
returns-clause-same g c =
    flush_takes g.T.PacketWriter.kind g.T.PacketWriter.history c.args.self.now c.flush.new.self (ok_or c.flush.result c.flush.new.fault)
    c.flush.ensures.flushes
