use Rattle.std.proofs.Math.Logic.{∥∥₁_map}
use Rattle.cadence_flow.specs.RecordedPacker.{past_of}
use Rattle.cadence_queuing.proofs.queuing.look_of.Look+RecordedPacker+W+B+A+J.frames.Goals as goal

pub returns : goal.returns
returns g c =
    let fed = c.args.self.now.stage.value in
    ∥∥₁_map fed.stage.packed (λ packed. record { past = past_of fed.stage; packed = packed; took = fed.taken })
