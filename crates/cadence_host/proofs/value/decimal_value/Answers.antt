use Rattle.std.proofs.Common.{rules, ◌≡◌, sym, subst, List, ◌∷◌, [], ◌++◌, length, ◌<◌, ◌+◌, take, pos}
use Rattle.cadence_value.specs.Number.{Number}
use Rattle.cadence_host.specs.Calls.{AreNumbersOf, IsNumberOf}
use Rattle.cadence_host.proofs.Lists.{next_pair}
use Rattle.cadence_host.proofs.value.decimal_value.Goals as goal

pub loop-value-preserved : goal.loop-value-preserved
loop-value-preserved c =
    let values = c.args.values.now in
    let i = c.loop-value.value-index in
    let number = c.in_ok-decimal_of-2.field-0 in
    let within : i < length values = search rules in
    let items : c.push.new.self.items ≡ c.loop-value.numbers.items ++ number ∷ [] = search rules in
    subst (λ (ns : List Number). AreNumbersOf (take (i + 1) values) ns) (sym items)
    (next_pair IsNumberOf values i c.loop-value.numbers.items (record { mantissa = pos 0; places = 0 }) number within c.loop-value.invariant
    c.in_ok-decimal_of-2.ensures.number)
