-- The text of a whole number: a minus if it is below zero, and its digits.
use Rattle.std.proofs.Common.{◌≡◌, ℤ, pos, negsuc, unsigned_abs, [], ◌++◌, codes, arith}
use Rattle.std.proofs.lemmas.Grind.{common_steps}
use Rattle.std.specs.Int.{is_negative}
use Rattle.std.specs.Prelude.{if◌then◌else◌}
use Rattle.cadence_value.specs.Number.{decimal_text, number_text, whole}

pub whole_text : (n : ℤ) → number_text (whole n) ≡ (if is_negative n then codes "-" else []) ++ decimal_text (unsigned_abs n)
whole_text (pos n) = grind (arith, common_steps)
whole_text (negsuc n) = grind (arith, common_steps)
