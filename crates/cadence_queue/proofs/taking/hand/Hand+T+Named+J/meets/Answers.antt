use Rattle.std.proofs.Common.{ap, sym, ◌∙◌, refl}
use Rattle.cadence_queue.proofs.taking.hand.Hand+T+Named+J.meets.Goals as goal

pub meets-requires : goal.meets-requires
meets-requires g c = (c.args.self.now.named _ refl).0 ∙ sym c.requires

pub returns-clause-taken : goal.returns-clause-taken
returns-clause-taken g c =
    ap (λ l. l.items) c.meets.ensures.log ∙ (sym c.meets.ensures.same ∙ (c.args.self.now.named _ refl).1)
