use Rattle.std.proofs.Common.{arith, refl}
use Rattle.core.proofs.str.Cased as cased
use Rattle.cadence_text.specs.Cleaned.{cleaned_byte}
use Rattle.cadence_text.proofs.grammar.Cleaned.{zero_stays}
use Rattle.cadence_text.proofs.line.cleaning.clean.Goals as goal

pub loop-i-init : goal.loop-i-init
loop-i-init c = (refl, (refl, (λ k l. absurd (omega arith)), λ k l. refl))

pub loop-i-preserved : goal.loop-i-preserved
loop-i-preserved c = (
  c.loop-i.invariant.0,
  cased.one_more (cleaned_byte c.args.after_key) (zero_stays c.args.after_key) c.args.text.now c.loop-i.text c.loop-i.i
      c.cleaned_byte.result (omega arith) c.cleaned_byte.ensures c.loop-i.invariant.1,
)

pub returns : goal.returns
returns c = cased.all_changed (cleaned_byte c.args.after_key) (zero_stays c.args.after_key) c.args.text.now c.loop-i.text c.loop-i.i (omega arith) c.loop-i.invariant.1
