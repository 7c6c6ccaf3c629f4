use Rattle.std.proofs.Common.{rules, arith, [], ◌∷◌, ◌≡◌, ◌<◌, ◌≤◌, inl, inr, length, map, refl, subst, sym}
use Rattle.cadence_words.specs.Commands.{IsLineOfCommand}
use Rattle.cadence_send.specs.Takes.{takes_more}
use Rattle.cadence_send.proofs.run.send_words.Goals as goal

pub returns-then-len-defaults : goal.returns-then-len-defaults
returns-then-len-defaults g c =
    let line = c.in-Ok.line.items in
    let long : c.args.defaults.now.longest < length line = search (rules, arith) in
    (inr (line, c.in-Ok.ensures, long), refl)

pub returns-in_ok-send-in-Ok : goal.returns-in_ok-send-in-Ok
returns-in_ok-send-in-Ok g c =
    let line = c.deref.result.now in
    let same : line ≡ c.in-Ok.line.items = search rules in
    let short : length c.in-Ok.line.items ≤ c.args.defaults.now.longest = search (rules, arith) in (
      line,
      (
        subst (IsLineOfCommand c.args.defaults.now c.args.fields.now (map (λ w. w.now) c.args.words.now)) (sym same) c.in-Ok.ensures,
        subst (λ l. length l ≤ c.args.defaults.now.longest) (sym same) short,
      ),
      takes_more g.T.PacketWriter.kind g.T.PacketWriter.history c.args.lines.now c.take.new.self c.send.new.self (line ∷ []) []
          c.in_ok-take-in-Ok.ensures.taken c.send.ensures.same,
      c.in_ok-send-in-Ok.ensures.sent,
    )

pub returns-in-Err-Unusable : goal.returns-in-Err-Unusable
returns-in-Err-Unusable g c = (inl (search rules), refl)
