use Rattle.std.proofs.Common.{◌≡◌, ◌∷◌, ◌++◌, [], length, rules, subst}
use Rattle.cadence_aggregating.specs.Keys.{IsKeyOfLine}
use Rattle.cadence_c.proofs.sums.keyed.make_key.Goals as goal

pub returns-in-Ok-clause-made : goal.returns-in-Ok-clause-made
returns-in-Ok-clause-made c =
    let key = c.in-Some-2.key in
    let is : IsKeyOfLine c.in-Some.line.now key = search rules in
    let items : c.push.new.self.items ≡ c.args.keys.now.items ++ key ∷ [] = search rules in
    let place : c.len-place.result ≡ length c.args.keys.now.items = search rules in
    (place, (key, subst (λ t. IsKeyOfLine t key) c.in-Some.ensures.text.0 is, items))
