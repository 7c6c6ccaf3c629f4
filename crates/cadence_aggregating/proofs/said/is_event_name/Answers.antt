use Rattle.std.proofs.Common.{rules, ◌≡◌, ◌∷◌, ◌∙◌, sym, subst}
use Rattle.cadence_aggregating.specs.Says.{HasComma}
use Rattle.cadence_aggregating.proofs.said.is_event_name.Goals as goal

pub returns-in-Some : goal.returns-in-Some
returns-in-Some c =
    let whole : c.args.name.now ≡ 95 ∷ 101 ∷ 123 ∷ c.in-Some.rest.now = search rules in
    let comma = c.has_comma.ensures in (
      λ t. (c.in-Some.rest.now, whole, comma.0 t),
      λ (rest, its, has). let same : rest ≡ c.in-Some.rest.now = cc (sym its ∙ whole) in comma.1 (subst HasComma same has),
    )
