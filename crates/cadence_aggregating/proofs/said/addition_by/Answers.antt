use Rattle.std.proofs.Common.{rules, refl, sym, subst}
use Rattle.std.proofs.lemmas.Int.{to_z-of_z}
use mir.Syntax.{w64}
use mir.Val.{SFits}
use Rattle.cadence_text.specs.declared.line.MetricType.TheVariants.{Gauge}
use Rattle.cadence_value.specs.Finds.{Finds}
use Rattle.cadence_aggregating.specs.Additions.{IsAdditionBy}
use Rattle.cadence_aggregating.specs.declared.said.Addition.TheVariants.{Level}
use Rattle.cadence_aggregating.proofs.Saying.{addition_found, none_counted, none_metered, none_set}
use Rattle.cadence_aggregating.proofs.said.addition_by.Goals as goal

pub returns-in-Gauge : goal.returns-in-Gauge
returns-in-Gauge c =
    let values = c.args.values.now in
    subst (λ k. Finds (IsAdditionBy k values) c.if_number.result) (sym c.in-Gauge.is)
    (addition_found values c.if_number.result Gauge Level (λ number. (refl, number)) (none_set values) c.if_number.ensures.some c.if_number.ensures.none)

pub returns-in-Meter : goal.returns-in-Meter
returns-in-Meter c = λ a h. none_metered c.args.values.now a (subst (λ k. IsAdditionBy k c.args.values.now a) c.in-Meter.is h)

pub returns-in-Some : goal.returns-in-Some
returns-in-Some c =
    let fits : SFits w64 c.in-Some.by = search rules in
    rw (to_z-of_z w64 c.in-Some.by fits) (c.in-Counter.is, c.in-Some.ensures.some, search rules)

pub returns-in-None : goal.returns-in-None
returns-in-None c =
    λ a h. none_counted c.args.values.now c.in-None.ensures.none a (subst (λ k. IsAdditionBy k c.args.values.now a) c.in-Counter.is h)
