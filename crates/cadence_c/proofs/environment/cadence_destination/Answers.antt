use Rattle.std.proofs.Common.{rules}
use Rattle.cadence_c.proofs.Results.{writes}
use Rattle.cadence_c.proofs.Variables.{is_named}
use Rattle.cadence_c.proofs.environment.cadence_destination.Goals as goal

pub returns-in-Err-clause-refused : goal.returns-in-Err-clause-refused
returns-in-Err-clause-refused c bad v has =
    is_named c.in-Err.error v _ (c.refusal.ensures.named bad) (c.in-Err.ensures.refused v has)

pub returns-in-Nowhere-clause-target : goal.returns-in-Nowhere-clause-target
returns-in-Nowhere-clause-target c v has =
    writes _ _ _ _ _ (c.in-Ok.environment.destination, c.in-Ok.ensures.place v has, search rules, search rules, search rules)
    c.copy_out.ensures.copied c.copy_out.ensures.within c.copy_out.ensures.told c.copy_out.ensures.small

pub returns-in-Udp-clause-target : goal.returns-in-Udp-clause-target
returns-in-Udp-clause-target c v has =
    writes _ _ _ _ _ (c.in-Ok.environment.destination, c.in-Ok.ensures.place v has, search rules, search rules, search rules)
    c.copy_out-in-Udp.ensures.copied c.copy_out-in-Udp.ensures.within c.copy_out-in-Udp.ensures.told c.copy_out-in-Udp.ensures.small

pub returns-clause-target : goal.returns-clause-target
returns-clause-target c v has =
    writes _ _ _ _ _ (c.in-Ok.environment.destination, c.in-Ok.ensures.place v has, search rules, search rules, search rules)
    c.copy_out-in-Unix.ensures.copied c.copy_out-in-Unix.ensures.within c.copy_out-in-Unix.ensures.told c.copy_out-in-Unix.ensures.small
