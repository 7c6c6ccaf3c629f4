use Rattle.std.proofs.Common.{rules}
use Rattle.cadence.specs.Sending.{IsMadeFrom}
use Rattle.cadence.proofs.SendingLemmas.{sampled_sent, sampled_refused}
use Rattle.cadence.proofs.client.sending.send_sample.Goals as goal

pub returns-in-Ok-send_line : goal.returns-in-Ok-send_line
returns-in-Ok-send_line g c = rw c.in-Ok.is
    (sampled_sent (g.C.MetricBackend.line_may_get c.args.client.now) (IsMadeFrom g.T.From.from_gives) c.in-Ok.draft c.set_rate.new.self
    c.args.chance c.number.result c.args.draw c.in-Ok-send_line.sent c.set_rate.ensures.rate c.number.ensures (search rules)
    c.in-Ok-send_line.ensures)

pub returns-in-Err-send_line : goal.returns-in-Err-send_line
returns-in-Err-send_line g c = rw c.in-Ok.is
    (sampled_refused (g.C.MetricBackend.line_may_get c.args.client.now) (IsMadeFrom g.T.From.from_gives) c.in-Ok.draft c.set_rate.new.self
    c.args.chance c.number.result c.args.draw c.in-Err-send_line.e c.set_rate.ensures.rate c.number.ensures (search rules)
    c.in-Err-send_line.ensures)
