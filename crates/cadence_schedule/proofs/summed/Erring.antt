-- How many errors the calls of the sums before a packer make.
use Rattle.std.proofs.Common.{◌≡◌, zero-le, ◌≤◌, List, [], ◌∷◌, Option, Some, None, Ok, Err, length, refl, ap, arith, inl, inr}
use Rattle.cadence_errors.specs.declared.SinkError.{SinkError}
use Rattle.cadence_schedule.specs.RunHistory.{Turn}
use Rattle.cadence_schedule.specs.declared.steps.Step.TheVariants as step
use Rattle.cadence_schedule.specs.declared.steps.Reply.TheVariants as reply
use Rattle.cadence_schedule.specs.Asked.{AskAll, Asks, FailsBy, WritesLines, WritesThen}
use Rattle.cadence_stage.specs.Call.{Call, Flush, Line}
use Rattle.cadence_schedule.specs.Calls.{errors_of}
use Rattle.cadence_schedule.proofs.packets.Refusing.{more_errors}

no_error : (asked : List Call) → WritesLines asked None → length (errors_of asked) ≡ 0
no_error [] w = refl
no_error (Line line (Ok n) ∷ xs) w = no_error xs w
no_error (Line line (Err e) ∷ xs) (ends, w) = absurd (let bad : ◌≡◌ {A = Option SinkError} None (Some e) = w in cc)
no_error (Flush result ∷ xs) w = absurd w

one_error : (asked : List Call) (error : Option SinkError) → WritesLines asked error → length (errors_of asked) ≤ 1
one_error [] error w = zero-le
one_error (Line line (Ok n) ∷ xs) error w = one_error xs error w
one_error (Line line (Err e) ∷ xs) error (ends, w) = omega (arith, ap (λ ys. length (errors_of ys)) ends)
one_error (Flush result ∷ xs) error w = absurd w

fails_one : (asked : List Call) (e : SinkError) → FailsBy asked e → length (errors_of asked) ≤ 1
fails_one asked e (inl w) = one_error asked (Some e) w
fails_one asked e (inr (w, none)) = one_error asked None w

then_one : (asked : List Call) (last : Call) → length (errors_of (last ∷ [])) ≤ 1 → WritesThen asked last → length (errors_of asked) ≤ 1
then_one asked last few (lines, w, is) =
    omega (arith, few, no_error lines w, more_errors lines (last ∷ []), ap (λ xs. length (errors_of xs)) is)

asks_one : {A : Type 0} (t : Turn A) (asked : List Call) → Asks t asked → length (errors_of asked) ≤ 1
asks_one (step.Hand, reply.Handed (Ok n)) asked w = one_error asked None w
asks_one (step.Hand, reply.Handed (Err e)) asked w = fails_one asked e w
asks_one (step.Flush, reply.Flushed (Ok done)) asked w = then_one asked (Flush (Ok done)) (omega arith) w
asks_one (step.Flush, reply.Flushed (Err e)) asked (inl w) = fails_one asked e w
asks_one (step.Flush, reply.Flushed (Err e)) asked (inr w) = then_one asked (Flush (Err e)) (omega arith) w
asks_one t asked none = omega (arith, ap (λ xs. length (errors_of xs)) none)

-- A step has one error at most.
pub few_errors : {A : Type 0} (turns : List (Turn A)) (all : List Call) → AskAll turns all → length (errors_of all) ≤ length turns
few_errors [] all none = omega (arith, ap (λ xs. length (errors_of xs)) none)
few_errors (t ∷ turns) all (asked, rest, are, first, later) =
    omega (arith, asks_one t asked first, few_errors turns rest later, more_errors asked rest, ap (λ xs. length (errors_of xs)) are)
