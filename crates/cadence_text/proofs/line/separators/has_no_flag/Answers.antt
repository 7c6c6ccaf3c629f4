use Rattle.std.proofs.Common.{get_or}
use Rattle.std.proofs.lemmas.Bool.{eq-eqb, eqb-true}
use Rattle.cadence_text.proofs.grammar.SeparatorTable.{flag_says}
use Rattle.cadence_text.proofs.line.separators.has_no_flag.Goals as goal

pub returns : goal.returns
returns c = let says = flag_says c.args.flags.now c.args.byte c.requires c.ranges.byte.fits in (
  λ zero. says.0 (eqb-true (get_or c.args.flags.now c.args.byte 0) 0 zero),
  λ free. eq-eqb (get_or c.args.flags.now c.args.byte 0) 0 (says.1 free),
)
