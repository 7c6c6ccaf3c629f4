use Rattle.std.proofs.Common.{◌<◌, ◌≤◌, ◌^◌, length, sym, ap, subst, ◌∙◌}
use Rattle.std.specs.List.{zip}
use Rattle.cadence_aggregate.specs.Aggregate.{held}
use Rattle.cadence_flow.specs.Packer.{new_packer}
use Rattle.cadence_settings.specs.CallData.{line_of_data}
use Rattle.cadence_schedule.specs.Aggregated.{HasAggregated, outcome_shown}
use Rattle.cadence_schedule.specs.Headline.{given_of}
use Rattle.cadence_schedule.specs.Running.{Runs}
use Rattle.cadence_schedule.proofs.headline.PackedRun.{IsNew}
use Rattle.cadence_schedule.proofs.summed.Ended.{calls, has_aggregated, leads}
use Rattle.cadence_schedule.proofs.aggregated.run_schedule_aggregated.Goals as goal

pub returns-in-Ok-new-2-clause-headline : goal.returns-in-Ok-new-2-clause-headline
returns-in-Ok-new-2-clause-headline g c =
    let kind_of = g.W.PacketWriter.kind in
    let history_of = g.W.PacketWriter.history in
    let settings = c.args.settings.now in
    let capacity = c.args.capacity in
    let ending = c.args.ending.now in
    let queue = c.args.queue in
    let policy = c.args.policy in
    let steps = c.args.steps.now in
    let writer = c.args.writer in
    let given = given_of kind_of history_of settings capacity ending queue policy steps writer in
    let first = c.new-sums.result in
    let run = c.make_steps-running.result.0 in
    let replies = c.make_steps-running.result.1 in
    let ended = c.report_of.ensures in
    let law = c.no_line_is_empty.ensures in
    let least = c.tight_is_fewest.ensures in
    let same = c.new-sums.ensures.packing in
    let new : IsNew kind_of history_of settings capacity ending queue policy steps writer first.sink.packing =
    record {
      packer = ap (λ p. p.packer) same ∙ c.in-Ok-new-2.ensures.packer ∙ ap (λ w. new_packer w capacity ending) c.new-counting.ensures;
      cut = ap (λ p. p.cut.items) same ∙ c.in-Ok-new-2.ensures.cut;
    } in
    let none_held = ap (λ l. held l.aggregator) c.new-sums.ensures.lines ∙ c.in-Ok-new.ensures.held in
    let runs =
    subst (λ q. Runs (leads kind_of history_of settings capacity ending queue policy steps writer) (line_of_data settings) q.capacity q.policy first run
    (zip steps replies.items)) c.in-Ok.ensures.queue c.make_steps-running.ensures.runs in
    let one_each = c.make_steps-running.ensures.one_each in
    let few : length steps < 2 ^ 64 = c.in-Ok.ensures.few in
    let all = (calls kind_of history_of settings capacity ending queue policy steps writer law least first run replies new none_held c.new-sums.ensures.notes
    one_each few runs).all in (
      all,
      subst (λ a. HasAggregated history_of given (outcome_shown c.report_of.result) (held a) all) (sym ended.aggregator)
          (subst (λ o. HasAggregated history_of given o (held run.stage.lines.aggregator) all) (sym ended.outcome)
          (has_aggregated kind_of history_of settings capacity ending queue policy steps writer law least first run replies new none_held
          c.new-sums.ensures.notes one_each few runs
          (subst (λ o. length o.held ≤ run.stage.sink.packing.packer.format.capacity) ended.outcome ended.held)
          (subst (λ o. o.stats.bytes_sent < 2 ^ 64) ended.outcome ended.bytes_sent)
          (subst (λ o. o.stats.packets_sent < 2 ^ 64) ended.outcome ended.packets_sent))),
    )
