use Rattle.std.proofs.Common.{◌≡◌, ◌∙◌, ◌++◌, ◌∷◌, ap, append_assoc, rules, sym}
use Rattle.cadence_events.specs.Cleaned.{barless}
use Rattle.cadence_events.specs.Escapes.{escaped_message}
use Rattle.cadence_events.proofs.CleanedTexts.{barless_cut, barless_plain}
use Rattle.cadence_events.proofs.Escaping.{message_sides}
use Rattle.cadence_events.proofs.cleaning.push_barless.Goals as goal

pub loop-front-preserved : goal.loop-front-preserved
loop-front-preserved g c =
    let ends = g.S.ByteWriter.ends_as c.loop-front.line in
    let left = c.loop-front.left.now in
    let front = c.in-Some.front.now in
    let rest = c.in-Some.rest.now in
    let after = escaped_message (barless rest) in
    let cut : escaped_message (barless left) ≡ escaped_message front ++ 95 ∷ after =
    ap escaped_message (barless_cut left front rest c.in-Some.ensures.whole c.in-Some.ensures.front) ∙ message_sides front (barless rest) in (
      search rules,
      λ more. c.take_byte.ensures (after ++ more)
          ∙ c.push_message.ensures (95 ∷ (after ++ more))
          ∙ ap ends (sym (append_assoc (escaped_message front) (95 ∷ after) more) ∙ ap (λ t. t ++ more) (sym cut))
          ∙ c.loop-front.invariant.1 more,
    )

pub returns : goal.returns
returns g c = λ rest.
    c.push_message-2.ensures rest
    ∙ ap (λ t. g.S.ByteWriter.ends_as c.loop-front.line (escaped_message t ++ rest)) (sym (barless_plain c.loop-front.left.now c.in_default.ensures.none))
    ∙ c.loop-front.invariant.1 rest
