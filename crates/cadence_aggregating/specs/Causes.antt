-- Why a call fails.
use Rattle.std.proofs.Common.{inr, refl, subst}
use Rattle.std.specs.Prelude.{◌≡◌, ◌⊎◌, ℕ, List, [], ◌∷◌, ◌++◌, Result, Ok, Err}
use Rattle.cadence_errors.specs.declared.SinkError.{SinkError}
use Rattle.cadence_errors.specs.declared.SinkError.TheVariants.{OutOfMemory}

-- The two lists are the errors with which the sink refused lines, before a call and after it. If the call returned an error,
-- the sink refused one line in it, with this error, or it refused none and memory ran out. If not, it refused none.
abbrev pub HasCause : List SinkError → Result (Unit {0}) SinkError → List SinkError → Type 0
HasCause before (Ok done) after = after ≡ before
HasCause before (Err e) after = (after ≡ before ++ e ∷ []) ⊎ ((after ≡ before) × (e ≡ OutOfMemory))

-- a call in which memory ran out before a line was given to the sink
pub cause_without_memory : (errors : List SinkError) → HasCause errors (Err OutOfMemory) errors
cause_without_memory errors = inr (refl, refl)

-- a call that consists of one that succeeds and of another one
pub cause_further : (before between after : List SinkError) (result : Result (Unit {0}) SinkError) → between ≡ before → HasCause between result after → HasCause before result after
cause_further before between after result none cause = subst (λ errors. HasCause errors result after) none cause

-- This is the reply for a line that was given to a sink: the sink may answer just this line so. If memory ran out, the sink
-- was not asked. The two lists are the errors with which it refused lines before and after.
abbrev pub IsReplyFor : {S : Type 0} → (S → List ℕ → Result ℕ SinkError → Type 0) → S → List ℕ
    → List SinkError → Result (Unit {0}) SinkError → List SinkError → Type 0
IsReplyFor may_answer sink line before (Ok done) after = (after ≡ before) × ((bytes : ℕ) × may_answer sink line (Ok bytes))
IsReplyFor may_answer sink line before (Err e) after =
    ((after ≡ before ++ e ∷ []) × may_answer sink line (Err e)) ⊎ ((after ≡ before) × (e ≡ OutOfMemory))
