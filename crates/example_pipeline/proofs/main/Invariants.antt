use Rattle.cadence_queuing.specs.Logs.{names_of}
use Rattle.example_pipeline.proofs.main.Given as goal

abbrev pub ghosts-serve : goal.ghosts-serve
ghosts-serve g a = record { names = names_of a.logs }
