use Rattle.cadence_aggregate.proofs.levels.set_level.Goals as goal

pub returns-clause-within : goal.returns-clause-within
returns-clause-within g c = λ most within. c.send_after.ensures.within most tt within
