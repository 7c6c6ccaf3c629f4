use Rattle.std.proofs.Common.{rules, subst, sym}
use Rattle.std.specs.Str.{IsUtf8}
use Rattle.cadence_text.proofs.line.line_buf.LineBuf.grow.Goals as goal

pub invariant_of-self : goal.invariant_of-self
invariant_of-self g c = record { utf8 = subst (λ l. ∥ IsUtf8 l ∥₁) (sym c.reserve.ensures.items) c.args.self.now.utf8; within = search rules }

pub invariant_of-self-2 : goal.invariant_of-self-2
invariant_of-self-2 g c = record { utf8 = subst (λ l. ∥ IsUtf8 l ∥₁) (sym c.reserve.ensures.items) c.args.self.now.utf8; within = search rules }
