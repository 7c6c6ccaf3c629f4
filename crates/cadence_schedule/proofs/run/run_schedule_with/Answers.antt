use Rattle.std.proofs.Common.{◌<◌, ◌≤◌, ◌^◌, length, sym, ap, subst, ◌∙◌, ⊎_elim}
use Rattle.std.specs.List.{zip}
use Rattle.cadence_flow.specs.Packer.{new_packer}
use Rattle.cadence_settings.proofs.calls.FreeTexts.{strict_or_cleaned}
use Rattle.cadence_settings.specs.CallData.{line_of_data}
use Rattle.cadence_schedule.specs.Headline.{given_of, HasHeadline, IsAccounted}
use Rattle.cadence_schedule.specs.PackedRuns.{room_of}
use Rattle.cadence_schedule.specs.Running.{Runs}
use Rattle.cadence_schedule.proofs.headline.PackedRun.{IsNew}
use Rattle.cadence_schedule.proofs.headline.WholeRun.{has_headline, is_accounted, leads}
use Rattle.cadence_schedule.proofs.run.run_schedule_with.Goals as goal

pub returns-in-Ok-new-clause-headline : goal.returns-in-Ok-new-clause-headline
returns-in-Ok-new-clause-headline g c =
    let kind_of = g.W.PacketWriter.kind in
    let history_of = g.W.PacketWriter.history in
    let settings = c.args.settings.now in
    let capacity = c.args.capacity in
    let ending = c.args.ending.now in
    let queue = c.args.queue in
    let policy = c.args.policy in
    let steps = c.args.steps.now in
    let writer = c.args.writer in
    let given = given_of kind_of history_of settings capacity ending queue policy steps writer in
    let run = c.make_steps-running.result.0 in
    let replies = c.make_steps-running.result.1 in
    let ended = c.of.ensures in
    let new : IsNew kind_of history_of settings capacity ending queue policy steps writer c.in-Ok-new.packing =
    record { packer = c.in-Ok-new.ensures.packer ∙ ap (λ w. new_packer w capacity ending) c.new-counting.ensures; cut = c.in-Ok-new.ensures.cut } in
    let room : length steps ≤ room_of c.in-Ok-new.packing = c.in-Ok-new.ensures.room in
    let runs =
    subst (λ q. Runs (leads kind_of history_of settings capacity ending queue policy steps writer) (line_of_data settings) q.capacity q.policy c.in-Ok-new.packing run
    (zip steps replies.items)) c.in-Ok.ensures.queue c.make_steps-running.ensures.runs in
    let one_each = c.make_steps-running.ensures.one_each in
    let few : length steps < 2 ^ 64 = c.in-Ok.ensures.few in
    let bound = subst (λ o. length o.held ≤ run.stage.packer.format.capacity) ended.outcome ended.held in
    let bytes = subst (λ o. o.stats.bytes_sent < 2 ^ 64) ended.outcome ended.bytes_sent in
    let packets = subst (λ o. o.stats.packets_sent < 2 ^ 64) ended.outcome ended.packets_sent in
    subst (λ o. HasHeadline history_of given o × IsAccounted history_of given o) (sym ended.outcome) (
      has_headline kind_of history_of settings capacity ending queue policy steps writer c.no_line_is_empty.ensures c.tight_is_fewest.ensures
          c.in-Ok-new.packing run replies new room one_each few runs bound bytes packets,
      is_accounted kind_of history_of settings capacity ending queue policy steps writer c.no_line_is_empty.ensures c.tight_is_fewest.ensures
          c.in-Ok-new.packing run replies new room one_each few runs bound bytes packets c.packets_read_one_way.ensures c.strict_calls_are_clear.ensures
          c.cleaned_calls_are_clear.ensures
          (λ clears. ⊎_elim (λ strict. c.is_strict.ensures.clear (c.is_strict.ensures.strict ∙ strict))
          (λ cleaned. c.is_cleaned.ensures.clear (c.is_cleaned.ensures.cleaned ∙ cleaned)) (strict_or_cleaned settings.strict settings.cleaned clears)) c.make_steps-running.ensures.representable,
    )
