use Rattle.std.proofs.Common.{map, string_bytes, ap, ◌∙◌}
use Rattle.std.proofs.Math.Logic.{∥∥₁_map}
use Rattle.example_pipeline.proofs.stop.Goals as goal

pub returns-clause-given : goal.returns-clause-given
returns-clause-given g c = λ keeps.
    ∥∥₁_map c.stop_and_flush-look.ensures.delivered (λ all. c.stop_and_flush-look.ensures.given ∙ ap (map string_bytes) (all.all keeps))
