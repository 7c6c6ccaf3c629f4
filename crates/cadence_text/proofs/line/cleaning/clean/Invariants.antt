use Rattle.std.proofs.Common.{◌≡◌, ◌-◌, length}
use Rattle.core.proofs.str.Cased as cased
use Rattle.cadence_text.specs.Cleaned.{cleaned_byte}
use Rattle.cadence_text.proofs.grammar.Cleaned.{zero_stays}
use Rattle.cadence_text.proofs.line.cleaning.clean.Given as goal

abbrev pub invariant-loop-i : goal.invariant-loop-i
invariant-loop-i l =
    (l.i-end ≡ length l.initial.text) × cased.Upto (cleaned_byte l.after_key) (zero_stays l.after_key) l.initial.text l.text l.i

abbrev pub decreases-loop-i : goal.decreases-loop-i
decreases-loop-i l = l.i-end - l.i
