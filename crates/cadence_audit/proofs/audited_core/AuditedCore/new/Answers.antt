use Rattle.std.proofs.Common.{rules, refl}
use Rattle.cadence_audit.proofs.AuditSteps.{zeros_index}
use Rattle.cadence_audit.proofs.audited_core.AuditedCore.new.Goals as goal

pub invariant_of-result : goal.invariant_of-result
invariant_of-result g c = record {
  legal = rw c.new-2.ensures.items (λ i e got. cc);
  order = rw c.new-2.ensures.items refl;
  past = rw c.new-2.ensures.items c.in_ok-new.ensures.past;
  bound = search rules;
  refuses = search rules;
  stop = search rules;
  counted = rw c.new-2.ensures.items (zeros_index _ _ (c.in_ok-vec.ensures.items_if_clones_equal (λ y same. same)));
}
