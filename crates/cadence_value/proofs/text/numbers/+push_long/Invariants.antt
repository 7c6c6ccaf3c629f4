use Rattle.cadence_value.proofs.text.numbers.+push_long.Given as goal

abbrev pub decreases-push_long : goal.decreases-push_long
decreases-push_long g l = l.number
