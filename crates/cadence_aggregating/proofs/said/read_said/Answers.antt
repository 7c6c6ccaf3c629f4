use Rattle.std.proofs.Common.{rules, sym, subst, ◌≡◌, ◌∙◌}
use Rattle.std.proofs.lemmas.Int.{to_z-of_z}
use mir.Syntax.{w64}
use mir.Val.{SFits}
use Rattle.cadence_aggregate.specs.Server.{amount, level, timing}
use Rattle.cadence_read.specs.Cuts.{parts_of_text}
use Rattle.cadence_aggregating.specs.Additions.{IsAddition, context_of}
use Rattle.cadence_aggregating.specs.Says.{LineSays}
use Rattle.cadence_aggregating.proofs.Saying.{amount_said, level_said, member_said, said_added, timing_said}
use Rattle.cadence_aggregating.proofs.said.read_said.Goals as goal

pub not_added-requires : goal.not_added-requires
not_added-requires c = λ said says. let (a, added) = said_added c.args.line.now said says in c.in_default.ensures a added

pub returns-in-Amount : goal.returns-in-Amount
returns-in-Amount c =
    let line = c.args.line.now in
    let p = parts_of_text c.in-Some.parts in
    let written : c.deref.result.now ≡ context_of p = c.deref.ensures ∙ c.in_ok-write_context.ensures in
    let fits : SFits w64 c.in-Amount.by = search rules in
    rw (to_z-of_z w64 c.in-Amount.by fits)
    (subst (λ t. LineSays line (amount t c.in-Amount.by)) (sym written)
    (amount_said line p c.in-Some.ensures.0 c.in-Some.ensures.1 c.in-Amount.by (subst (IsAddition p) c.in-Amount.is c.in-Some.ensures.2)))

pub returns-in-Level : goal.returns-in-Level
returns-in-Level c =
    let line = c.args.line.now in
    let p = parts_of_text c.in-Some.parts in
    let written : c.deref-in-Level.result.now ≡ context_of p = c.deref-in-Level.ensures ∙ c.in_ok-write_context.ensures in
    subst (λ t. LineSays line (level t p.values)) (sym written)
    (level_said line p c.in-Some.ensures.0 c.in-Some.ensures.1 (subst (IsAddition p) c.in-Level.is c.in-Some.ensures.2))

pub returns-in-Member : goal.returns-in-Member
returns-in-Member c =
    let p = parts_of_text c.in-Some.parts in
    member_said c.args.line.now p c.in-Some.ensures.0 c.in-Some.ensures.1 (subst (IsAddition p) c.in-Member.is c.in-Some.ensures.2)

pub returns-in-Timing : goal.returns-in-Timing
returns-in-Timing c =
    let line = c.args.line.now in
    let p = parts_of_text c.in-Some.parts in
    let written : c.deref-in-Timing.result.now ≡ context_of p = c.deref-in-Timing.ensures ∙ c.in_ok-write_context.ensures in
    subst (λ t. LineSays line (timing t p.values)) (sym written)
    (timing_said line p c.in-Some.ensures.0 c.in-Some.ensures.1 (subst (IsAddition p) c.in-Timing.is c.in-Some.ensures.2))
