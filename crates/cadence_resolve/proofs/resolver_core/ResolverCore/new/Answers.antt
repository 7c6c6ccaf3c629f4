use Rattle.std.proofs.Common.{rules}
use Rattle.cadence_resolve.proofs.Address.{start_is_resolved}
use Rattle.cadence_resolve.proofs.resolver_core.ResolverCore.new.Goals as goal

pub returns-clause-after : goal.returns-clause-after
returns-clause-after g c = start_is_resolved c.args.first _ (search rules)
