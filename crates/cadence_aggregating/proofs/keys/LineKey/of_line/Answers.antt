use Rattle.std.proofs.Common.{rules, subst, sym}
use Rattle.cadence_aggregate.specs.Server.{amount, level}
use Rattle.cadence_aggregating.specs.Says.{LineSays}
use Rattle.cadence_aggregating.proofs.keys.LineKey.of_line.Goals as goal

pub returns-in-Amount-clause-key : goal.returns-in-Amount-clause-key
returns-in-Amount-clause-key c =
    let says : LineSays c.args.line.now (amount c.in-Amount.context.now c.in-Amount.field-1) = search rules in
    (c.in-Amount.field-1, subst (λ t. LineSays c.args.line.now (amount t c.in-Amount.field-1)) (sym c.in_ok-from_str-in-Amount.ensures.ok) says)

pub returns-in-Level-clause-key : goal.returns-in-Level-clause-key
returns-in-Level-clause-key c =
    let says : LineSays c.args.line.now (level c.in-Level.context.now c.in-Level.field-1.now) = search rules in
    (c.in-Level.field-1.now, subst (λ t. LineSays c.args.line.now (level t c.in-Level.field-1.now)) (sym c.in_ok-from_str-in-Level.ensures.ok) says)
