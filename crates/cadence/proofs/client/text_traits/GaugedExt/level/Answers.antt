use Rattle.std.proofs.Common.{rules, Some, [], ◌∷◌, refl, subst, sym}
use Rattle.cadence_text.specs.declared.line.MetricType.TheVariants.{Gauge}
use Rattle.cadence_value.specs.Number.{natural, numbers_text}
use Rattle.cadence.specs.Sending.{StartsPlain}
use Rattle.cadence.proofs.SendingLemmas.{sends_level_above, sends_level_below, sends_value}
use Rattle.cadence.proofs.client.text_traits.GaugedExt.level.Goals as goal

pub returns-then-mantissa-ge0 : goal.returns-then-mantissa-ge0
returns-then-mantissa-ge0 g c =
    sends_level_above (g.Self.MetricBackend.settings c.args.self.now) (g.Self.MetricBackend.line_may_get c.args.self.now) c.args.key.now
    c.args.value c.try_send.result (search rules)
    (sends_value _ (g.Self.MetricBackend.settings c.args.self.now) g.Self.MetricBackend.line_may_get
    c.args.self.now c.gauge_with_tags-line.result.client.now Gauge c.args.key.now (Some (numbers_text (c.args.value ∷ [])))
    c.gauge_with_tags-line.result.draft c.try_send.result c.gauge_with_tags-line.ensures.client c.gauge_with_tags-line.ensures.pending
    c.try_send.ensures.answers)

pub returns : goal.returns
returns g c = sends_level_below _ (g.Self.MetricBackend.settings c.args.self.now) g.Self.MetricBackend.line_may_get
    c.args.self.now c.new.result.client.now c.args.key.now c.args.value c.new.result.draft c.gauge_with_tags-line.result.draft
    c.try_send_before.result c.new.ensures.client (search rules)
    (subst (StartsPlain (g.Self.MetricBackend.settings c.args.self.now) Gauge c.args.key.now (Some (natural 0 ∷ [])))
    (sym c.new.ensures.pending) (c.draft-zero.ensures (Some (natural 0 ∷ [])) refl))
    c.gauge_with_tags-line.ensures.pending c.try_send_before.ensures
