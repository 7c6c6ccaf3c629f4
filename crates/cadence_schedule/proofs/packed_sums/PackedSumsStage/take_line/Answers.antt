use Rattle.std.proofs.Common.{sym, subst}
use Rattle.std.specs.Option.{ok_or}
use Rattle.cadence_stage.specs.Call.{Line}
use Rattle.cadence_schedule.specs.SumsCalls.{SumsCall}
use Rattle.cadence_schedule.proofs.summed.Calling.{not_added}
use Rattle.cadence_schedule.proofs.packed_sums.PackedSumsStage.take_line.Goals as goal

pub returns-in_err-add-clause-step : goal.returns-in_err-add-clause-step
returns-in_err-add-clause-step g c =
    let kind = g.P.PacketWriter.kind in
    let history = g.P.PacketWriter.history in
    let old = c.args.self.now in
    let new = record old { lines = c.add.new.self; sink = c.add.new.sink } in
    subst (λ r. SumsCall kind history old (Line c.args.line.now (ok_or r c.add.new.fault)) new) (sym c.from_residual.ensures)
    (not_added kind history old new c.args.line.now c.add.new.fault c.in_err-add.ensures.leads c.in_err-add.ensures.unsaid)
