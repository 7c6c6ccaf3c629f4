use Rattle.std.specs.Prelude.{Some}
use Rattle.cadence_text.specs.declared.line.MetricType.TheVariants.{Gauge}
use Rattle.cadence_text.specs.TextValue.{change_text}
use Rattle.cadence.proofs.SendingLemmas.{sends_value}
use Rattle.cadence.proofs.client.text_traits.GaugedExt.change.Goals as goal

pub returns : goal.returns
returns g c = sends_value _ (g.Self.MetricBackend.settings c.args.self.now) g.Self.MetricBackend.line_may_get
    c.args.self.now c.change_with_tags.result.client.now Gauge c.args.key.now (Some (change_text c.args.by)) c.change_with_tags.result.draft
    c.try_send.result c.change_with_tags.ensures.client c.change_with_tags.ensures.pending c.try_send.ensures.answers
