-- What was seen of a list bounds what it has now.
use mathlib.Core.List.{IsPrefix}
use denote.Param.{param}
use Rattle.cadence_stage.proofs.GhostLog.{pairs}
use Rattle.cadence_stage.proofs.Halves.{bounds}
use Rattle.cadence_stage.specs.contracts.ghost_log.Seen.{the_type}
use Rattle.cadence_stage.proofs.ghost_log.Log.began.Statement.{statement}
use Rattle.cadence_stage.proofs.ghost_log.Log.began.Code as code

pub began_spec : {M : Type 1} → statement M
began_spec 𝓤 𝓛 𝓜 𝓡 wired A LA =
    pairs A (the_type (param 0 A)) (λ s. s.name) 𝓛 𝓜 𝓡 (λ l s. IsPrefix s.items l.items)
    (λ l s. bounds (param 0 A).coded 𝓛 l.name s.name l.items s.items) _ _ _ (code.unfolded 𝓤 𝓛.H 𝓜 𝓡 wired (A, tt))
