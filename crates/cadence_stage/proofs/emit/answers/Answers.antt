use Rattle.cadence_stage.specs.Answered.{is_answered, is_flush_answered}
use Rattle.cadence_stage.proofs.emit.answers.Goals as goal

pub returns-clause-line : goal.returns-clause-line
returns-clause-line c = is_answered

pub returns-clause-flush : goal.returns-clause-flush
returns-clause-flush c = is_flush_answered
