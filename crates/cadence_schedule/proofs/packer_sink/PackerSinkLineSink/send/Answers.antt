use Rattle.std.proofs.Common.{refl, sym, subst, ◌∙◌}
use Rattle.std.specs.Option.{ok_or}
use Rattle.cadence_schedule.specs.Leads.{LeadsSink}
use Rattle.cadence_schedule.proofs.summed.Giving.{line_kept, line_refused}
use Rattle.cadence_schedule.proofs.packer_sink.PackerSinkLineSink.send.Goals as goal

pub returns-in_err-_count-clause-leads : goal.returns-in_err-_count-clause-leads
returns-in_err-_count-clause-leads g c =
    let kind = g.P.PacketWriter.kind in
    let history = g.P.PacketWriter.history in
    let old = c.args.self.now in
    let new = record old { packing = c.take_line.new.self; text = c.note_line.new.text } in
    subst (λ r. LeadsSink kind history old (ok_or r c.take_line.new.fault) new) (sym c.from_residual.ensures)
    (line_refused kind history old new c.deref.result.now c.take_line.new.fault c.in_err-_count.ensures.step refl)

pub returns-clause-leads : goal.returns-clause-leads
returns-clause-leads g c =
    let old = c.args.self.now in
    let new = record old { packing = c.take_line.new.self; text = c.note_line.new.text; notes = c.note.new.self } in
    line_kept g.P.PacketWriter.kind g.P.PacketWriter.history old new c.deref.result.now c.in_ok-_count._count c.in-Ok.note
    c.in_ok-_count.ensures.step c.note.ensures.items (c.deref.ensures ∙ c.in-Ok.ensures.line)
