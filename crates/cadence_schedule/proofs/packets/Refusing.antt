-- The errors of what a packer was given: each has a cause, and they are as many as the writer refused packets.
use Rattle.std.proofs.Common.{◌≡◌, ℕ, ◌+◌, ◌%◌, ◌^◌, List, [], ◌∷◌, ◌++◌, Ok, Err, true, length, refl, ap, arith}
use Rattle.std.specs.List.{AllByRecursion}
use Rattle.cadence_flow.specs.Frame.{Format}
use Rattle.cadence_flow.specs.Writer.{WriterKind}
use Rattle.cadence_schedule.proofs.headline.ReplyCauses.{may_fail, refused_once}
use Rattle.cadence_schedule.specs.Replies.{IsCount, MayFail}
use Rattle.cadence_schedule.specs.PackedRuns.{PackedState, AllMovePacker}
use Rattle.cadence_stage.specs.Call.{Call, Flush, Line}
use Rattle.cadence_schedule.specs.Calls.{errors_of, refusals_from}

module _ (kind : WriterKind) where
  none_more : (old mid new n : ℕ) → mid ≡ old → new % 2 ^ 64 ≡ (mid + n) % 2 ^ 64 → new % 2 ^ 64 ≡ (old + n) % 2 ^ 64
  none_more old mid new n e f = omega arith

  one_more : (old mid new n more : ℕ) → more ≡ n + 1 → mid ≡ (old + 1) % 2 ^ 64 → new % 2 ^ 64 ≡ (mid + n) % 2 ^ 64
      → new % 2 ^ 64 ≡ (old + more) % 2 ^ 64
  one_more old mid new n more e f g = omega arith

  module _ (format : Format) where
    -- What was given may have this answer: a count of its bytes, or an error with a cause.
    abbrev pub MayAnswer : Call → Type 0
    MayAnswer (Line line (Ok n)) = IsCount kind.takes_whole format line n
    MayAnswer (Line line (Err e)) = MayFail kind.may_give kind.takes_whole e
    MayAnswer (Flush (Ok done)) = Unit {0}
    MayAnswer (Flush (Err e)) = MayFail kind.may_give kind.takes_whole e

    pub answers_all : (xs : List Call) (s s' : PackedState) → AllMovePacker kind format s xs s' → AllByRecursion MayAnswer xs
    answers_all [] s s' same = tt
    answers_all (Line line (Ok n) ∷ xs) s s' (mid, (w, counts), rest) =
        (record { within = w.count.within; fits = w.count.not_oversize; whole = w.count.takes_whole }, answers_all xs mid s' rest)
    answers_all (Line line (Err e) ∷ xs) s s' (mid, (w, counts), rest) =
        (may_fail kind s.history mid.history _ _ e w.fails.cause, answers_all xs mid s' rest)
    answers_all (Flush (Ok done) ∷ xs) s s' (mid, (f, same), rest) = (tt, answers_all xs mid s' rest)
    answers_all (Flush (Err e) ∷ xs) s s' (mid, (f, same), rest) = (may_fail kind s.history mid.history _ _ e f.cause, answers_all xs mid s' rest)

    pub causes_all : (xs : List Call) → AllByRecursion MayAnswer xs → AllByRecursion (MayFail kind.may_give kind.takes_whole) (errors_of xs)
    causes_all [] answers = tt
    causes_all (Line line (Ok n) ∷ xs) (answer, answers) = causes_all xs answers
    causes_all (Line line (Err e) ∷ xs) (answer, answers) = (answer, causes_all xs answers)
    causes_all (Flush (Ok done) ∷ xs) (answer, answers) = causes_all xs answers
    causes_all (Flush (Err e) ∷ xs) (answer, answers) = (answer, causes_all xs answers)

    pub refused_all : kind.takes_whole ≡ true → (xs : List Call) (s s' : PackedState) → AllMovePacker kind format s xs s'
        → s'.history.refusals % 2 ^ 64 ≡ (s.history.refusals + length (errors_of xs)) % 2 ^ 64
    refused_all whole [] s s' same = none_more s.history.refusals s'.history.refusals s'.history.refusals 0 (ap (λ t. t.history.refusals) same) (omega arith)
    refused_all whole (Line line (Ok n) ∷ xs) s s' (mid, (w, counts), rest) =
        none_more s.history.refusals mid.history.refusals s'.history.refusals (length (errors_of xs)) w.none_refused.0 (refused_all whole xs mid s' rest)
    refused_all whole (Line line (Err e) ∷ xs) s s' (mid, (w, counts), rest) =
        one_more s.history.refusals mid.history.refusals s'.history.refusals (length (errors_of xs)) (length (e ∷ errors_of xs)) (omega arith)
        (refused_once kind s.history mid.history _ _ e whole w.fails.cause) (refused_all whole xs mid s' rest)
    refused_all whole (Flush (Ok done) ∷ xs) s s' (mid, (f, same), rest) =
        none_more s.history.refusals mid.history.refusals s'.history.refusals (length (errors_of xs)) f.none_refused.0 (refused_all whole xs mid s' rest)
    refused_all whole (Flush (Err e) ∷ xs) s s' (mid, (f, same), rest) =
        one_more s.history.refusals mid.history.refusals s'.history.refusals (length (errors_of xs)) (length (e ∷ errors_of xs)) (omega arith)
        (refused_once kind s.history mid.history _ _ e whole f.cause) (refused_all whole xs mid s' rest)

-- Without an error no line was refused.
pub none_refused : (place : ℕ) (xs : List Call) → length (errors_of xs) ≡ 0 → refusals_from place xs ≡ []
none_refused place [] e = refl
none_refused place (Line line (Ok n) ∷ xs) e = none_refused (place + 1) xs e
none_refused place (Line line (Err f) ∷ xs) e = absurd (omega (arith, e))
none_refused place (Flush (Ok done) ∷ xs) e = none_refused place xs e
none_refused place (Flush (Err f) ∷ xs) e = absurd (omega (arith, e))

pub more_errors : (xs ys : List Call) → length (errors_of (xs ++ ys)) ≡ length (errors_of xs) + length (errors_of ys)
more_errors [] ys = omega arith
more_errors (Line line (Ok n) ∷ xs) ys = more_errors xs ys
more_errors (Line line (Err e) ∷ xs) ys = omega (arith, more_errors xs ys)
more_errors (Flush (Ok done) ∷ xs) ys = more_errors xs ys
more_errors (Flush (Err e) ∷ xs) ys = omega (arith, more_errors xs ys)
