use Rattle.cadence_send.proofs.Feeding.{feeding_more, feeding_none, feeding_some, on_err}
use Rattle.cadence_send.proofs.engine.feed.Goals as goal

pub loop-front-init : goal.loop-front-init
loop-front-init g c =
    feeding_none g.L.LineTaker.takes g.met.L.LineTaker.takes_none g.met.L.LineTaker.takes_more c.args.defaults.now c.args.lines.now c.args.buffers.now.waiting.items
    c.args.bytes.now c.requires

pub loop-front-preserved : goal.loop-front-preserved
loop-front-preserved g c =
    let d = c.args.defaults.now in
    rw c.in_ok-unread.ensures.none
    (feeding_more g.L.LineTaker.takes g.met.L.LineTaker.takes_none g.met.L.LineTaker.takes_more d c.args.lines.now c.loop-front.lines c.take_text_end.new.lines
    c.args.buffers.now.waiting.items c.args.bytes.now c.loop-front.buffers.waiting.items c.loop-front.left.now c.in-Some.front.now
    c.in-Some.others.now
    c.loop-front.invariant c.in-Some.ensures.whole c.in-Some.ensures.front c.in_ok-unread.ensures.taken)

pub returns-in_err-unread-clause-some : goal.returns-in_err-unread-clause-some
returns-in_err-unread-clause-some g c =
    on_err c.from_residual.result
    (feeding_some g.L.LineTaker.takes g.met.L.LineTaker.takes_none g.met.L.LineTaker.takes_more c.args.defaults.now c.args.lines.now c.loop-front.lines c.take_text_end.new.lines
    c.args.buffers.now.waiting.items c.args.bytes.now c.loop-front.buffers.waiting.items c.loop-front.left.now c.loop-front.invariant
    c.in_err-unread.ensures.kept)
