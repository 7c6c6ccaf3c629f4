use Rattle.std.proofs.Common.{◌≡◌, ◌==◌, count_by, rules, tests, arith, ◌∙◌}
use Rattle.std.proofs.lemmas.Bool.Decides.{nat_tests}
use Rattle.std.proofs.lemmas.List.Sums.{length-filter}
use Rattle.std.proofs.lemmas.Iterator.{YieldsList-from_slice}
use Rattle.std.proofs.lemmas.Iterator.Consumers.{YieldsList-from_filter, count_from_yields_List}
use Rattle.cadence_audit.proofs.seat.is_once.Goals as goal

pub returns : goal.returns
returns g c =
    let seats = c.args.seats.now in
    let count : c.count.result ≡ count_by (λ s. s.number == c.args.number) seats =
    count_from_yields_List c.filter.result _ c.count.ensures.ran
    (YieldsList-from_filter _ (λ s. s.number == c.args.number) (YieldsList-from_slice seats cc)
    c.filter.ensures.closure (λ x b q k. search (rules, tests)))
    ∙ length-filter (λ s. s.number == c.args.number) seats in
    (λ h. grind (arith, nat_tests), λ e. grind (arith, nat_tests))
