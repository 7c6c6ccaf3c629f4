use Rattle.cadence_queuing.specs.Logs.{names_of}
use Rattle.test_sinks.proofs.tests.named.a_stage_may_refuse_in_the_middle.Given as goal

abbrev pub ghosts-assert_row : goal.ghosts-assert_row
ghosts-assert_row g a = record { names = names_of a.logs }
