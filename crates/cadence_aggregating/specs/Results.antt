-- That a call by a key doesn't answer by itself.
use Rattle.std.specs.Prelude.{◌≡◌, ℕ, List, Result, Ok, Err}
use Rattle.cadence_errors.specs.declared.MetricError.{MetricError}
use Rattle.cadence_errors.specs.declared.MetricError.TheVariants.{Sink}
use Rattle.cadence_errors.specs.declared.SinkError.{SinkError}

-- This is the result of a step under the lock that was to add this line. Other modules can't unfold it. Only the steps of
-- calls by keys have it, so such a call can't return a result of its own, or that of another key or number.
pub IsResultOf : List ℕ → Result ℕ SinkError → Type 0
IsResultOf line answer = Unit {0}

-- only for the proof of `steps`
pub is_result_of : (line : List ℕ) (answer : Result ℕ SinkError) → IsResultOf line answer
unfolding IsResultOf
is_result_of line answer = tt

-- A call whose line this is returns what its step under the lock answered.
abbrev pub IsCallOf : List ℕ → Result (Unit {0}) MetricError → Type 0
IsCallOf line (Ok done) = (bytes : ℕ) × IsResultOf line (Ok bytes)
IsCallOf line (Err e) = (fault : SinkError) × (e ≡ Sink fault) × IsResultOf line (Err fault)
