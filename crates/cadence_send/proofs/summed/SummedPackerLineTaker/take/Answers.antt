use Rattle.std.proofs.Common.{◌≡◌, ◌++◌, ◌∷◌, [], refl, rules, subst, true}
use Rattle.cadence_aggregating.specs.Summed.{AddsQuietly, accepted_in, waiting_in}
use Rattle.cadence_send.specs.Summed.{packer_below, sums_of, summed_none}
use Rattle.cadence_send.specs.Takes.{takes_none}
use Rattle.cadence_send.proofs.Feeding.{on_err}
use Rattle.cadence_send.proofs.Summing.{adds_quietly, summed_between, summed_kept, summed_sent}
use Rattle.cadence_send.proofs.summed.SummedPackerLineTaker.take.Goals as goal

pub returns-in_default-clause-kept : goal.returns-in_default-clause-kept
returns-in_default-clause-kept g c = summed_none g.T.PacketWriter.kind g.T.PacketWriter.history c.args.self.now

pub returns-in_err-give_waiting-clause-kept : goal.returns-in_err-give_waiting-clause-kept
returns-in_err-give_waiting-clause-kept g c =
    on_err c.from_residual.result
    (summed_kept g.T.PacketWriter.kind g.T.PacketWriter.history c.args.self.now c.give_waiting.new.self c.give_waiting.ensures.gives
    c.give_waiting.ensures.accepted)

pub returns-in_err-add-clause-kept : goal.returns-in_err-add-clause-kept
returns-in_err-add-clause-kept g c =
    let kind = g.T.PacketWriter.kind in
    let history = g.T.PacketWriter.history in
    let q = c.give_waiting.new.self in
    on_err c.from_residual-in_err-add.result
    (summed_sent kind history [] c.args.self.now q _
    (summed_kept kind history c.args.self.now q c.give_waiting.ensures.gives c.give_waiting.ensures.accepted)
    c.in_err-add.ensures.err c.add.ensures.gone (takes_none kind history (packer_below q)))

pub returns-clause-taken : goal.returns-clause-taken
returns-clause-taken g c =
    let kind = g.T.PacketWriter.kind in
    let history = g.T.PacketWriter.history in
    let q = c.give_waiting.new.self in
    let line = c.args.line.now in
    let more : accepted_in c.add.new.self ≡ accepted_in (sums_of q) ++ line ∷ [] = search rules in
    summed_between kind history (line ∷ []) c.args.self.now q _ c.give_waiting-2.new.self c.give_waiting.ensures.gives
    c.give_waiting.ensures.accepted c.add.ensures.gone (takes_none kind history (packer_below q)) more c.give_waiting-2.ensures.gives
    c.give_waiting-2.ensures.accepted

pub returns-clause-quiet : goal.returns-clause-quiet
returns-clause-quiet g c =
    let q = c.give_waiting.new.self in
    let line = c.args.line.now in
    let quiet : AddsQuietly (sums_of q) line (waiting_in (sums_of q)) (waiting_in c.add.new.self) =
    subst (λ l. AddsQuietly (sums_of q) l (waiting_in (sums_of q)) (waiting_in c.add.new.self)) (search rules) c.in_ok-add.ensures.quiet in
    adds_quietly line c.args.self.now q (record q { sums = c.add.new.self; is_holding = true }) c.give_waiting-2.new.self c.give_waiting.ensures.none refl
    quiet c.give_waiting-2.ensures.none
