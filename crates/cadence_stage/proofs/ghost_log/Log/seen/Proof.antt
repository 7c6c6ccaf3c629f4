-- `seen` makes one more token of what the list began with.
use denote.Param.{param}
use Rattle.cadence_stage.proofs.GhostLog.{copies}
use Rattle.cadence_stage.proofs.Halves.{shows}
use Rattle.cadence_stage.specs.contracts.ghost_log.Log.{the_type}
use Rattle.cadence_stage.proofs.ghost_log.Log.seen.Statement.{statement}
use Rattle.cadence_stage.proofs.ghost_log.Log.seen.Code as code

pub seen_spec : {M : Type 1} → statement M
seen_spec 𝓤 𝓛 𝓜 𝓡 wired A LA =
    copies A (the_type (param 0 A)) (λ l. l.name) 𝓛 𝓜 𝓡 (λ l. l.items)
    (λ l. shows (param 0 A).coded 𝓛 l.name l.items) _ _ (code.unfolded 𝓤 𝓛.H 𝓜 𝓡 wired (A, tt))
