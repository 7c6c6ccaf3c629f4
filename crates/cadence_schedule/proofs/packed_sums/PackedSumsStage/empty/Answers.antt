use Rattle.std.proofs.Common.{refl, sym, subst}
use Rattle.std.specs.Option.{ok_or}
use Rattle.cadence_stage.specs.Call.{Flush}
use Rattle.cadence_schedule.specs.SumsCalls.{SumsCall}
use Rattle.cadence_schedule.proofs.summed.Calling.{flushed_both, not_flushed}
use Rattle.cadence_schedule.proofs.packed_sums.PackedSumsStage.empty.Goals as goal

pub returns-in_err-flush-clause-step : goal.returns-in_err-flush-clause-step
returns-in_err-flush-clause-step g c =
    let kind = g.P.PacketWriter.kind in
    let history = g.P.PacketWriter.history in
    let old = c.args.self.now in
    let new = record old { lines = c.flush.new.self; sink = c.flush.new.sink } in
    subst (λ r. SumsCall kind history old (Flush (ok_or r c.flush.new.fault)) new) (sym c.from_residual.ensures)
    (not_flushed kind history old new c.flush.new.fault c.in_err-flush.ensures.leads c.in_err-flush.ensures.same)

pub returns-clause-step : goal.returns-clause-step
returns-clause-step g c =
    let old = c.args.self.now in
    let s = c.flush.new in
    flushed_both g.P.PacketWriter.kind g.P.PacketWriter.history old
    (record old { lines = s.self; sink = record s.sink { packing = c.empty.new.self } })
    s.sink (ok_or c.empty.result c.empty.new.fault) refl c.in_ok-flush.ensures.leads c.in_ok-flush.ensures.same c.in_ok-flush.ensures.ok c.empty.ensures.step
