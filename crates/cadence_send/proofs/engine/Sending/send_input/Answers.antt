use Rattle.cadence_send.proofs.Feeding.{first_flushed, first_of_all, on_err, sent_all}
use Rattle.cadence_send.proofs.engine.Sending.send_input.Goals as goal

pub returns-clause-all : goal.returns-clause-all
returns-clause-all g c =
    sent_all g.L.LineTaker.takes g.L.LineTaker.is_sent g.met.L.LineTaker.takes_more c.args.self.now.defaults.now (g.I.Read.remaining c.args.input.now) c.args.lines.now
    c.take_input-taken.new.lines c.send-flushed.new.self c.in_ok-counts.ensures.all c.in_ok-flushed.ensures.same c.in_ok-flushed.ensures.sent

pub returns-in_err-counts-clause-first : goal.returns-in_err-counts-clause-first
returns-in_err-counts-clause-first g c =
    on_err c.from_residual.result
    (first_flushed g.L.LineTaker.takes g.met.L.LineTaker.takes_none g.met.L.LineTaker.takes_more c.args.self.now.defaults.now (g.I.Read.remaining c.args.input.now) c.args.lines.now
    c.take_input-taken.new.lines c.send-flushed.new.self c.in_err-counts.ensures.first c.send-flushed.ensures.same)

pub returns-in_err-flushed-clause-first : goal.returns-in_err-flushed-clause-first
returns-in_err-flushed-clause-first g c =
    let takes = g.L.LineTaker.takes in
    let none = g.met.L.LineTaker.takes_none in
    let more = g.met.L.LineTaker.takes_more in
    let known = g.I.Read.remaining c.args.input.now in
    on_err c.from_residual-in_err-flushed.result
    (first_flushed takes none more c.args.self.now.defaults.now known c.args.lines.now c.take_input-taken.new.lines c.send-flushed.new.self
    (first_of_all takes c.args.self.now.defaults.now known c.args.lines.now c.take_input-taken.new.lines c.in_ok-counts.ensures.all)
    c.send-flushed.ensures.same)
