-- Why a lookup fails, and why a sink is not made.
use Rattle.std.specs.Prelude.{◌≡◌}
use Rattle.cadence_errors.specs.declared.ErrorKind.TheVariants.{InvalidInput}
use Rattle.cadence_errors.specs.declared.SinkError.{SinkError}
use Rattle.cadence_errors.specs.declared.SinkError.TheVariants.{Io, OutOfMemory}
use Rattle.cadence_errors.specs.declared.MetricError.{MetricError}
use Rattle.cadence_errors.specs.declared.MetricError.TheVariants.{Sink, Described}
use Rattle.cadence_errors.specs.Errors.{out_of_memory}
use Rattle.cadence_resolve.specs.declared.target.Target.{Target}
use Rattle.cadence_resolve.specs.declared.target.Target.TheVariants.{Addr}

-- A lookup fails with an error of the system, or because memory runs out.
abbrev pub IsLookupFault : SinkError → Type 0
IsLookupFault (Io e) = Unit {0}
IsLookupFault OutOfMemory = Unit {0}
IsLookupFault _ = ⊥

-- A sink is not made because the lookup or the start of a thread failed, because memory ran out, or because the name
-- has no address.
abbrev pub IsSocketRefusal : MetricError → Type 0
IsSocketRefusal (Sink e) = IsLookupFault e
IsSocketRefusal (Described kind text) = kind ≡ InvalidInput

-- A sink that looks its target up once is not made: for an address, because memory ran out; for a name, for any of the
-- reasons above.
abbrev pub IsTargetRefusal : {A : Type 0} → Target A → MetricError → Type 0
IsTargetRefusal (Addr address) e = e ≡ out_of_memory
IsTargetRefusal _ e = IsSocketRefusal e
