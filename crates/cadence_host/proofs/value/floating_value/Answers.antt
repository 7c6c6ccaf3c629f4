use Rattle.std.proofs.Common.{rules, ◌≡◌, sym, subst, List, ◌∷◌, [], ◌++◌, length, ◌<◌, ◌+◌, take}
use lib.Ieee.{nan}
use Rattle.cadence_value.specs.Number.{Number}
use Rattle.cadence_host.specs.Calls.{AreNumbersOfFloats, IsNumberOfFloat}
use Rattle.cadence_host.proofs.Lists.{next_pair}
use Rattle.cadence_host.proofs.value.floating_value.Goals as goal

pub loop-value-preserved : goal.loop-value-preserved
loop-value-preserved c =
    let values = c.args.values.now in
    let i = c.loop-value.value-index in
    let k = c.args.kind in
    let number = c.in_ok-float_decimal-2.field-0 in
    let within : i < length values = search rules in
    let items : c.push.new.self.items ≡ c.loop-value.numbers.items ++ number ∷ [] = search rules in
    subst (λ (ns : List Number). AreNumbersOfFloats k (take (i + 1) values) ns) (sym items)
    (next_pair (IsNumberOfFloat k) values i c.loop-value.numbers.items nan number within c.loop-value.invariant
    c.in_ok-float_decimal-2.ensures.number)
