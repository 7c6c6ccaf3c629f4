use Rattle.cadence_queuing.proofs.fed.FedStage.meets.Goals as goal

pub invariant_of-self : goal.invariant_of-self
invariant_of-self g c =
    let now = c.args.self.now in
    let same = c.meets.ensures.log in
    record { names = rw same now.names; taken = rw same now.taken; begins = rw same now.begins }
