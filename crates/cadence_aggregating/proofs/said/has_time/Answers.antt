use Rattle.std.specs.Prelude.{codes}
use Rattle.std.proofs.lemmas.Str.Pattern.{contains_text}
use Rattle.cadence_aggregating.proofs.said.has_time.Goals as goal

pub returns : goal.returns
returns c = contains_text c.contains.result (codes "|T") c.args.line.now c.contains.ensures.cases
