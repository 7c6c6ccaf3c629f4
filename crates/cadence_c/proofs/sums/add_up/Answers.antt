use Rattle.std.proofs.Common.{◌∷◌, []}
use Rattle.cadence_c.specs.SumsKeys.{line_of_addend}
use Rattle.cadence_c.proofs.GivenLines.{adds_between, adds_quietly}
use Rattle.cadence_c.proofs.sums.add_up.Goals as goal

pub returns-clause-ok : goal.returns-clause-ok
returns-clause-ok c =
    let a = c.args.lines.now in
    let b = c.give_waiting.new.lines in
    let added = c.add.new.lines in
    let line = line_of_addend c.args.addend in
    record {
      adds = adds_between (line ∷ []) a b added c.give_waiting-2.new.lines c.args.client.now c.give_waiting.new.client
          c.give_waiting-2.new.client c.give_waiting.ensures.gives c.give_waiting.ensures.accepted c.add.ensures.limits c.add.ensures.gone c.in_ok-add.ensures.ok
          c.give_waiting-2.ensures.gives c.give_waiting-2.ensures.accepted;
      quiet = adds_quietly line a b added c.args.client.now c.give_waiting.new.client c.give_waiting-2.new.client c.give_waiting.ensures.none
          c.in_ok-add.ensures.quiet (λ none. (c.give_waiting-2.ensures.none none).1);
    }
