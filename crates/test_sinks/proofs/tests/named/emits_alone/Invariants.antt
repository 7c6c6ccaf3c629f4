use Rattle.cadence_queuing.specs.Logs.{names_of}
use Rattle.test_sinks.proofs.tests.named.emits_alone.Given as goal

abbrev pub ghosts-emits : goal.ghosts-emits
ghosts-emits g a = record { names = names_of a.logs }
