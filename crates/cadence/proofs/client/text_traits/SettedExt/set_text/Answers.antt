use Rattle.std.specs.Prelude.{None, Some}
use Rattle.cadence_text.specs.declared.line.MetricType.TheVariants.{Set}
use Rattle.cadence.proofs.SendingLemmas.{sends_value}
use Rattle.cadence.proofs.client.text_traits.SettedExt.set_text.Goals as goal

pub returns-clause-member : goal.returns-clause-member
returns-clause-member g c = λ member. sends_value _ (g.Self.MetricBackend.settings c.args.self.now) g.Self.MetricBackend.line_may_get
    c.args.self.now c.set_text_with_tags.result.client.now Set c.args.key.now (Some c.args.text.now) c.set_text_with_tags.result.draft
    c.try_send.result c.set_text_with_tags.ensures.client (c.set_text_with_tags.ensures.member member) c.try_send.ensures.answers

pub returns-clause-other : goal.returns-clause-other
returns-clause-other g c = λ no. sends_value _ (g.Self.MetricBackend.settings c.args.self.now) g.Self.MetricBackend.line_may_get
    c.args.self.now c.set_text_with_tags.result.client.now Set c.args.key.now None c.set_text_with_tags.result.draft
    c.try_send.result c.set_text_with_tags.ensures.client (c.set_text_with_tags.ensures.other no) c.try_send.ensures.answers
