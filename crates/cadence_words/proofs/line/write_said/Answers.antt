use Rattle.cadence_words.proofs.line.write_said.Goals as goal

pub returns-in-Value : goal.returns-in-Value
returns-in-Value g c = rw c.in-Value.is c.write_value.ensures

pub returns-in-Level : goal.returns-in-Level
returns-in-Level g c = rw c.in-Level.is c.write_level.ensures
