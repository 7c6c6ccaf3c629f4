use Rattle.cadence_send.proofs.engine.keep_pace.Goals as goal

pub returns-then-not-is_due : goal.returns-then-not-is_due
returns-then-not-is_due g c = g.met.L.LineTaker.takes_none c.args.lines.now
