-- `again` makes one more token of what the list began with.
use denote.Param.{param}
use Rattle.cadence_stage.proofs.GhostLog.{copies}
use Rattle.cadence_stage.proofs.Halves.{twice}
use Rattle.cadence_stage.specs.contracts.ghost_log.Seen.{the_type}
use Rattle.cadence_stage.proofs.ghost_log.Seen.again.Statement.{statement}
use Rattle.cadence_stage.proofs.ghost_log.Seen.again.Code as code

pub again_spec : {M : Type 1} → statement M
again_spec 𝓤 𝓛 𝓜 𝓡 wired A LA =
    copies A (the_type (param 0 A)) (λ s. s.name) 𝓛 𝓜 𝓡 (λ s. s.items)
    (λ s. twice (param 0 A).coded 𝓛 s.name s.items) _ _ (code.unfolded 𝓤 𝓛.H 𝓜 𝓡 wired (A, tt))
