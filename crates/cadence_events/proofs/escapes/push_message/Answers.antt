use Rattle.std.proofs.Common.{◌≡◌, ◌∙◌, ◌++◌, ◌∷◌, ap, append_assoc, rules, sym}
use Rattle.cadence_events.specs.Escapes.{between, escaped, escaped_message}
use Rattle.cadence_events.proofs.Escaping.{last_byte, message_cut, message_plain}
use Rattle.cadence_events.proofs.escapes.push_message.Goals as goal

pub loop-front-preserved : goal.loop-front-preserved
loop-front-preserved g c =
    let ends = g.S.ByteWriter.ends_as c.loop-front.line in
    let left = c.loop-front.left.now in
    let front = c.in-Some.front.now in
    let rest = c.in-Some.rest.now in
    let mark = between (last_byte front) 58 in
    let cut : escaped_message left ≡ escaped front ++ (mark ++ 58 ∷ escaped_message rest) =
    message_cut left front rest c.in-Some.ensures.whole c.in-Some.ensures.front in (
      search rules,
      λ more. c.take_byte.ensures (escaped_message rest ++ more)
          ∙ c.push_mark.ensures (58 ∷ (escaped_message rest ++ more))
          ∙ c.push_escaped.ensures (mark ++ (58 ∷ (escaped_message rest ++ more)))
          ∙ ap ends (ap (λ t. escaped front ++ t) (sym (append_assoc mark (58 ∷ escaped_message rest) more))
          ∙ sym (append_assoc (escaped front) (mark ++ 58 ∷ escaped_message rest) more)
          ∙ ap (λ t. t ++ more) (sym cut))
          ∙ c.loop-front.invariant.1 more,
    )

pub returns : goal.returns
returns g c = λ rest.
    c.push_escaped-2.ensures rest
    ∙ ap (λ t. g.S.ByteWriter.ends_as c.loop-front.line (t ++ rest)) (sym (message_plain c.loop-front.left.now c.in_default.ensures.none))
    ∙ c.loop-front.invariant.1 rest
