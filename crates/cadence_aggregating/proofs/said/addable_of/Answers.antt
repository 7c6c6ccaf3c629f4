use Rattle.std.proofs.Common.{rules, subst, ◌≡◌}
use Rattle.cadence_read.proofs.OwnLines.{cut_once}
use Rattle.cadence_read.specs.Cuts.{Parts, parts_of_text}
use Rattle.cadence_aggregating.specs.Additions.{IsAddable, IsAddition}
use Rattle.cadence_aggregating.proofs.said.addable_of.Goals as goal

pub returns-in_default : goal.returns-in_default
returns-in_default c = λ a h. c.in_default.ensures a.0 h.0

pub returns-then-not-is_addable : goal.returns-then-not-is_addable
returns-then-not-is_addable c = λ a h.
    let p = parts_of_text c.in-Some.parts in
    let same : a.0 ≡ p = cut_once c.args.line.now a.0 p h.0 c.in-Some.ensures in
    absurd (search (rules, c.if-not-is_addable.ensures.1 (subst (λ (q : Parts). IsAddable c.args.line.now q.name) same h.1)))

pub returns-in-Some-addition_of : goal.returns-in-Some-addition_of
returns-in-Some-addition_of c = (c.in-Some.ensures, c.if-not-is_addable.ensures.0 (search rules), c.in-Some-addition_of.ensures)

pub returns-in-None : goal.returns-in-None
returns-in-None c = λ a h.
    let p = parts_of_text c.in-Some.parts in
    let same : a.0 ≡ p = cut_once c.args.line.now a.0 p h.0 c.in-Some.ensures in
    c.in-None.ensures a.1 (subst (λ (q : Parts). IsAddition q a.1) same h.2)
