use Rattle.std.proofs.Common.{rules}
use Rattle.cadence_sinks.proofs.spy.channel.Sender.offer.Goals as goal

pub returns-in-Ok-clause-copy : goal.returns-in-Ok-clause-copy
returns-in-Ok-clause-copy g c = (c.in-Ok._text.value, c.in-Ok._dropped, search rules, search rules)
