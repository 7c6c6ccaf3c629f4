use Rattle.cadence.specs.Sending.{IsMadeFrom}
use Rattle.cadence.proofs.SendingLemmas.{has_sent_call}
use Rattle.cadence.proofs.client.builder.MetricBuilder.try_send.Goals as goal

pub returns-in-Ok-clause-line : goal.returns-in-Ok-clause-line
returns-in-Ok-clause-line g c =
    has_sent_call (g.C.MetricBackend.line_may_get c.args.self.client.now) (IsMadeFrom g.T.From.from_gives) c.args.self.draft c.send_line.result
    (record { sent = rw c.in-Ok.is c.send_line.ensures; failed = rw c.in-Ok.is tt })
