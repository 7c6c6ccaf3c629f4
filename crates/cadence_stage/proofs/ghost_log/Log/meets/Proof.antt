-- The two halves of a name agree.
use mathlib.Core.Path.{◌≡◌}
use denote.Param.{param}
use Rattle.cadence_stage.proofs.GhostLog.{pairs}
use Rattle.cadence_stage.proofs.Halves.{agrees}
use Rattle.cadence_stage.specs.contracts.ghost_log.Right.{the_type}
use Rattle.cadence_stage.proofs.ghost_log.Log.meets.Statement.{statement}
use Rattle.cadence_stage.proofs.ghost_log.Log.meets.Code as code

pub meets_spec : {M : Type 1} → statement M
meets_spec 𝓤 𝓛 𝓜 𝓡 wired A LA =
    pairs A (the_type (param 0 A)) (λ r. r.name) 𝓛 𝓜 𝓡 (λ l r. r.items ≡ l.items)
    (λ l r. agrees (param 0 A).coded 𝓛 l.name r.name l.items r.items) _ _ _ (code.unfolded 𝓤 𝓛.H 𝓜 𝓡 wired (A, tt))
