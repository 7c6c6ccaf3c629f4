use Rattle.cadence_queuing.proofs.fed.FedStage.seen.Goals as goal

pub invariant_of-self : goal.invariant_of-self
invariant_of-self g c =
    let now = c.args.self.now in
    let same = c.again.ensures.same in
    record { names = rw same now.names; taken = now.taken; begins = rw same now.begins }
