use Rattle.cadence_queuing.specs.Logs.{names_of}
use Rattle.test_client.proofs.tests.aggregate.named.a_queue_over_sums_sends_a_summary.Given as goal

abbrev pub ghosts-assert_sums : goal.ghosts-assert_sums
ghosts-assert_sums g a = record { names = names_of a.logs }
