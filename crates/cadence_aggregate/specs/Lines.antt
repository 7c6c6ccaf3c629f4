-- What a line says, in the words of a server.
use Rattle.std.specs.Prelude.{List, [], ◌∷◌}
use Rattle.cadence_aggregate.specs.declared.line.Line.{Line}
use Rattle.cadence_aggregate.specs.declared.line.Line.TheVariants.{Amount, Level, Member, Timing, Unclear, Other}
use Rattle.cadence_aggregate.specs.Server.{Sample, amount, level, member, timing, unclear, other}

-- what a line says
abbrev pub sample_of : Line → Sample
sample_of (Amount c n) = amount c.now n
sample_of (Level c v) = level c.now v.now
sample_of (Member c) = member c.now
sample_of (Timing c t) = timing c.now t.now
sample_of (Unclear l) = unclear l.now
sample_of (Other l) = other l.now

-- what a list of this one line says
abbrev pub samples_of : Line → List Sample
samples_of line = sample_of line ∷ []
