use Rattle.std.proofs.Common.{◌≡◌, ◌∙◌, ◌++◌, ap, append_assoc, codes, rules, sym}
use Rattle.cadence_events.specs.Escapes.{escaped}
use Rattle.cadence_events.proofs.Escaping.{escaped_cut, escaped_plain}
use Rattle.cadence_events.proofs.escapes.push_escaped.Goals as goal

pub loop-front-preserved : goal.loop-front-preserved
loop-front-preserved g c =
    let ends = g.S.ByteWriter.ends_as c.loop-front.line in
    let left = c.loop-front.left.now in
    let front = c.in-Some.front.now in
    let rest = c.in-Some.rest.now in
    let cut : escaped left ≡ front ++ (codes "\\n" ++ escaped rest) = escaped_cut left front rest c.in-Some.ensures.whole c.in-Some.ensures.front in (
      search rules,
      λ more. c.take_piece-in-Some.ensures.taken (escaped rest ++ more)
          ∙ c.take_piece.ensures.taken (codes "\\n" ++ (escaped rest ++ more))
          ∙ ap ends (sym (append_assoc front (codes "\\n" ++ escaped rest) more) ∙ ap (λ t. t ++ more) (sym cut))
          ∙ c.loop-front.invariant.1 more,
    )

pub returns : goal.returns
returns g c = λ rest.
    c.take_piece-2.ensures.taken rest
    ∙ ap (λ t. g.S.ByteWriter.ends_as c.loop-front.line (t ++ rest)) (sym (escaped_plain c.loop-front.left.now c.in_default.ensures.none))
    ∙ c.loop-front.invariant.1 rest
