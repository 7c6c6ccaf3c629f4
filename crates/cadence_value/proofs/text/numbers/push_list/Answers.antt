use Rattle.std.proofs.Common.{◌≡◌, ◌∷◌, arith, rules}
use Rattle.std.proofs.lemmas.Grind.{common_steps}
use Rattle.std.proofs.lemmas.List.{length-map}
use Rattle.cadence_value.specs.Number.{IsDecimal}
use Rattle.cadence_value.proofs.lists.LoopElements.{All-one_more, All-split}
use Rattle.cadence_value.proofs.text.numbers.push_list.Goals as goal

pub loop-number-preserved : goal.loop-number-preserved
loop-number-preserved g c =
    record {
      taken = grind (arith, common_steps);
      sized =
          All-one_more (λ n. IsDecimal (g.T.IsNumber.number n)) c.in-Some.others.now c.loop-number.number-index c.number-item.result
          c.loop-number-test.true c.number-item.is c.loop-number.invariant.sized c.push_to-in-loop-number.ensures.sized;
    }

pub returns-clause-sized : goal.returns-clause-sized
returns-clause-sized g c =
    let split : c.args.numbers.now ≡ c.in-Some.first.now ∷ c.in-Some.others.now = search rules in
    record {
      each =
          All-split IsDecimal g.T.IsNumber.number c.args.numbers.now c.in-Some.first.now c.in-Some.others.now c.loop-number.number-index
          split c.push_to.ensures.sized c.loop-number-test.false c.loop-number.invariant.sized;
      few = omega (arith, length-map c.args.numbers.now g.T.IsNumber.number);
    }
