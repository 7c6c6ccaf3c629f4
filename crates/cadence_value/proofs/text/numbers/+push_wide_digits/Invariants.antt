use Rattle.cadence_value.proofs.text.numbers.+push_wide_digits.Given as goal

abbrev pub decreases-push_wide_digits : goal.decreases-push_wide_digits
decreases-push_wide_digits g l = l.number
