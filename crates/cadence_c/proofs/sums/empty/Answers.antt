use Rattle.std.proofs.Common.{◌∙◌, [], append-nil, sym}
use Rattle.cadence_aggregating.specs.Summed.{accepted_in}
use Rattle.cadence_c.proofs.GivenLines.{adds_between, empties, on_err}
use Rattle.cadence_c.proofs.sums.empty.Goals as goal

pub returns-clause-ok : goal.returns-clause-ok
returns-clause-ok c =
    let a = c.args.lines.now in
    let b = c.give_waiting.new.lines in
    let d = c.give_waiting-2.new.lines in
    let t = c.give_waiting-2.new.client in
    empties c.give_waiting-2.result a d c.args.client.now t
    (adds_between [] a b c.flush.new.self d c.args.client.now c.give_waiting.new.client t c.give_waiting.ensures.gives
    c.give_waiting.ensures.accepted c.flush.ensures.limits c.flush.ensures.gone (c.flush.ensures.accepted ∙ sym (append-nil (accepted_in b)))
    c.give_waiting-2.ensures.gives c.give_waiting-2.ensures.accepted) (c.give_waiting-2.ensures.held ∙ c.in_ok-flush.ensures.ok)
    c.give_waiting-2.ensures.all

pub returns-clause-err : goal.returns-clause-err
returns-clause-err c =
    let a = c.args.lines.now in
    let b = c.give_waiting.new.lines in
    on_err c.give_waiting-2.result
    (adds_between [] a b c.flush.new.self c.give_waiting-2.new.lines c.args.client.now c.give_waiting.new.client c.give_waiting-2.new.client
    c.give_waiting.ensures.gives c.give_waiting.ensures.accepted c.flush.ensures.limits c.flush.ensures.gone
    (c.flush.ensures.accepted ∙ sym (append-nil (accepted_in b))) c.give_waiting-2.ensures.gives c.give_waiting-2.ensures.accepted)
