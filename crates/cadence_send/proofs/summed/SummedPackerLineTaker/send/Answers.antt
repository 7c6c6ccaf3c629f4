use Rattle.std.proofs.Common.{◌∙◌, [], refl, sym}
use Rattle.std.proofs.lemmas.List.{append-nil}
use Rattle.cadence_aggregating.specs.Summed.{accepted_in}
use Rattle.cadence_send.specs.Summed.{packer_below, sums_of}
use Rattle.cadence_send.specs.Takes.{takes_none}
use Rattle.cadence_send.proofs.Summing.{summed_between, summed_kept, summed_sent}
use Rattle.cadence_send.proofs.summed.SummedPackerLineTaker.send.Goals as goal

pub returns-in_err-give_waiting-clause-same : goal.returns-in_err-give_waiting-clause-same
returns-in_err-give_waiting-clause-same g c =
    summed_kept g.T.PacketWriter.kind g.T.PacketWriter.history c.args.self.now c.give_waiting.new.self c.give_waiting.ensures.gives
    c.give_waiting.ensures.accepted

pub returns-in_err-flush-clause-same : goal.returns-in_err-flush-clause-same
returns-in_err-flush-clause-same g c =
    let kind = g.T.PacketWriter.kind in
    let history = g.T.PacketWriter.history in
    let q = c.give_waiting.new.self in
    summed_sent kind history [] c.args.self.now q _
    (summed_kept kind history c.args.self.now q c.give_waiting.ensures.gives c.give_waiting.ensures.accepted)
    c.flush.ensures.accepted c.flush.ensures.gone (takes_none kind history (packer_below q))

pub returns-in_err-give_waiting-2-clause-same : goal.returns-in_err-give_waiting-2-clause-same
returns-in_err-give_waiting-2-clause-same g c =
    let kind = g.T.PacketWriter.kind in
    let history = g.T.PacketWriter.history in
    let q = c.give_waiting.new.self in
    summed_between kind history [] c.args.self.now q _ c.give_waiting-2.new.self c.give_waiting.ensures.gives c.give_waiting.ensures.accepted
    c.flush.ensures.gone (takes_none kind history (packer_below q)) (c.flush.ensures.accepted ∙ sym (append-nil (accepted_in (sums_of q))))
    c.give_waiting-2.ensures.gives c.give_waiting-2.ensures.accepted

pub returns-in_err-send-clause-same : goal.returns-in_err-send-clause-same
returns-in_err-send-clause-same g c =
    let kind = g.T.PacketWriter.kind in
    let history = g.T.PacketWriter.history in
    let q = c.give_waiting.new.self in
    summed_sent kind history [] c.args.self.now c.give_waiting-2.new.self _
    (summed_between kind history [] c.args.self.now q _ c.give_waiting-2.new.self c.give_waiting.ensures.gives c.give_waiting.ensures.accepted
    c.flush.ensures.gone (takes_none kind history (packer_below q)) (c.flush.ensures.accepted ∙ sym (append-nil (accepted_in (sums_of q))))
    c.give_waiting-2.ensures.gives c.give_waiting-2.ensures.accepted) refl refl c.send.ensures.same

pub returns-clause-same : goal.returns-clause-same
returns-clause-same g c =
    let kind = g.T.PacketWriter.kind in
    let history = g.T.PacketWriter.history in
    let q = c.give_waiting.new.self in
    summed_sent kind history [] c.args.self.now c.give_waiting-2.new.self _
    (summed_between kind history [] c.args.self.now q _ c.give_waiting-2.new.self c.give_waiting.ensures.gives c.give_waiting.ensures.accepted
    c.flush.ensures.gone (takes_none kind history (packer_below q)) (c.flush.ensures.accepted ∙ sym (append-nil (accepted_in (sums_of q))))
    c.give_waiting-2.ensures.gives c.give_waiting-2.ensures.accepted) refl refl c.send.ensures.same
