use Rattle.std.proofs.Common.{rules, arith, ◌≡◌, ◌<◌, ◌≤◌, ℕ, List, inl, inr, length, subst, sym}
use Rattle.cadence_words.specs.Lines.{IsLineOfText}
use Rattle.cadence_send.proofs.Feeding.{text_without, text_taken}
use Rattle.cadence_send.proofs.engine.take_text.Goals as goal

pub returns-then-len-defaults-clause-taken : goal.returns-then-len-defaults-clause-taken
returns-then-len-defaults-clause-taken g c =
    let d = c.args.defaults.now in
    let line = c.write_line_of_text.new.buffer.items in
    let long : d.longest < length line = search (rules, arith) in
    text_without g.L.LineTaker.takes g.met.L.LineTaker.takes_none g.met.L.LineTaker.takes_more d _ _ (inr (
      line,
      subst (λ t. IsLineOfText d t line) c.without_return-text.ensures c.in-Ok.ensures,
      long,
    ))

pub returns-in_ok-take-in-Ok-clause-taken : goal.returns-in_ok-take-in-Ok-clause-taken
returns-in_ok-take-in-Ok-clause-taken g c =
    let d = c.args.defaults.now in
    let line = c.deref.result.now in
    let same : line ≡ c.write_line_of_text.new.buffer.items = search rules in
    let short : length c.write_line_of_text.new.buffer.items ≤ d.longest = search (rules, arith) in
    text_taken g.L.LineTaker.takes g.met.L.LineTaker.takes_none g.met.L.LineTaker.takes_more d _ _ _ line (
      subst (λ t. IsLineOfText d t line) c.without_return-text.ensures
          (subst (IsLineOfText d c.without_return-text.result.now) (sym same) c.in-Ok.ensures),
      subst (λ l. length l ≤ d.longest) (sym same) short,
    ) c.in_ok-take-in-Ok.ensures.taken

pub returns-then-is_blank-clause-taken : goal.returns-then-is_blank-clause-taken
returns-then-is_blank-clause-taken g c =
    let d = c.args.defaults.now in
    let none : (line : List ℕ) → IsLineOfText d c.without_return-text.result.now line → ⊥ = search rules in
    text_without g.L.LineTaker.takes g.met.L.LineTaker.takes_none g.met.L.LineTaker.takes_more d _ _
    (inl (subst (λ t. (line : List ℕ) → IsLineOfText d t line → ⊥) c.without_return-text.ensures none))

pub returns-else-is_blank-clause-taken : goal.returns-else-is_blank-clause-taken
returns-else-is_blank-clause-taken g c =
    let d = c.args.defaults.now in
    let none : (line : List ℕ) → IsLineOfText d c.without_return-text.result.now line → ⊥ = search rules in
    text_without g.L.LineTaker.takes g.met.L.LineTaker.takes_none g.met.L.LineTaker.takes_more d _ _
    (inl (subst (λ t. (line : List ℕ) → IsLineOfText d t line → ⊥) c.without_return-text.ensures none))
