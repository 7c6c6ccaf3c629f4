-- Why a sink of the library can't return a result of its own.
use Rattle.std.specs.Prelude.{List, ℕ, Result, Ok}
use Rattle.cadence_errors.specs.declared.SinkError.{SinkError}
use Rattle.cadence_stage.specs.Held.{NothingIsHeld}

-- A sink of the library has answered this line with this result. Other modules can't unfold this definition, and only
-- `emit_by` proves it, so the `emit` of such a sink can't return a result of its own.
pub IsAnswered : List ℕ → Result ℕ SinkError → Type 0
IsAnswered line answer = Unit {0}

-- A sink of the library has answered a flush with this result. Other modules can't unfold this definition, and only
-- `flush_by` and the default flush of a sink that holds nothing prove it.
pub IsFlushAnswered : Result (Unit {0}) SinkError → Type 0
IsFlushAnswered answer = Unit {0}

-- for the law of each sink that a flush may succeed
pub answered_by_holding_nothing : NothingIsHeld → IsFlushAnswered (Ok tt)
unfolding IsFlushAnswered
answered_by_holding_nothing held = tt

-- only for the proof of `answers`
pub is_answered : (line : List ℕ) (r : Result ℕ SinkError) → IsAnswered line r
unfolding IsAnswered
is_answered line r = tt

pub is_flush_answered : (r : Result (Unit {0}) SinkError) → IsFlushAnswered r
unfolding IsFlushAnswered
is_flush_answered r = tt
