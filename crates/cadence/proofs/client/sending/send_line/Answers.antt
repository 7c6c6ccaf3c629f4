use Rattle.std.proofs.Common.{rules}
use Rattle.cadence.proofs.client.sending.send_line.Goals as goal

pub returns : goal.returns
returns g c = ((c.in_ok-text.text, search rules, c.from.ensures), search rules)
