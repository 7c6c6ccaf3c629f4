use Rattle.std.proofs.Common.{◌==◌, ◌∙◌, rules, tests}
use Rattle.std.proofs.lemmas.List.Sums.{length-filter}
use Rattle.std.proofs.lemmas.Iterator.{YieldsList-from_slice}
use Rattle.std.proofs.lemmas.Iterator.Consumers.{YieldsList-from_filter, count_from_yields_List}
use Rattle.cadence_send.proofs.lasting.newlines_of.Goals as goal

pub returns : goal.returns
returns c =
    let bytes = c.args.packet.now in
    count_from_yields_List c.filter.result _ c.count.ensures.ran
    (YieldsList-from_filter _ (λ byte. byte == 10) (YieldsList-from_slice bytes cc)
    c.filter.ensures.closure (λ x b q k. search (rules, tests)))
    ∙ length-filter (λ byte. byte == 10) bytes
