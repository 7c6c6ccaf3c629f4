use Rattle.std.proofs.Common.{rules}
use Rattle.std.specs.Prelude.{Some, None}
use Rattle.cadence_errors.specs.declared.SinkError.TheVariants.{NoAddresses}
use Rattle.cadence_resolve.proofs.Address.{noted_is_after}
use Rattle.cadence_resolve.proofs.resolver_core.ResolverCore.note.Goals as goal

pub returns-in-Err-clause-after : goal.returns-in-Err-clause-after
returns-in-Err-clause-after g c = noted_is_after _ _ c.args.lookup (Some c.in-Err.fault) (search rules)

pub returns-in-Some-clause-after : goal.returns-in-Some-clause-after
returns-in-Some-clause-after g c = noted_is_after _ _ c.args.lookup None (search rules)

pub returns-clause-after : goal.returns-clause-after
returns-clause-after g c = noted_is_after _ _ c.args.lookup (Some NoAddresses) (search rules)
