-- What the reply to a call says of the call and of the queue before it.
use Rattle.std.proofs.Common.{◌≡◌, ℕ, List, Option, Some, None, Ok, Err, Bool, true, false, length, ap, inr, refl, ⊎_elim}
use Rattle.cadence_schedule.specs.declared.steps.Reply.{Reply}
use Rattle.cadence_schedule.specs.declared.steps.Reply.TheVariants as reply
use Rattle.cadence_errors.specs.declared.MetricError.{MetricError}
use Rattle.cadence_settings.specs.CallData.{LineFails}
use Rattle.cadence_schedule.specs.Replies.{CallReplies}

-- If a call was accepted, it has a line, the queue was neither stopped nor full, and the reply is the length of the
-- line.
pub call_accepts : (o : Option (List ℕ)) (stopped full : Bool) (drops : Option (List ℕ)) (n : ℕ)
    → CallReplies o stopped full drops (reply.Called (Ok n))
    → (line : List ℕ) × (o ≡ Some line) × (stopped ≡ false) × (full ≡ false) × (n ≡ length line)
call_accepts None stopped full drops n (e, invalid, bad) = absurd (let no : ◌≡◌ {A = Reply} (reply.Called (Ok n)) (reply.Called (Err e)) = bad in cc)
call_accepts (Some line) true full drops n r =
    ⊎_elim (λ bad. absurd (let no : ◌≡◌ {A = Reply} (reply.Called (Ok n)) _ = bad in cc))
    (λ bad. absurd (let no : ◌≡◌ {A = Reply} (reply.Called (Ok n)) _ = bad in cc)) r
call_accepts (Some line) false true (Some oldest) n r =
    ⊎_elim (λ bad. absurd (let no : ◌≡◌ {A = Reply} (reply.Called (Ok n)) _ = bad in cc))
    (λ bad. absurd (let no : ◌≡◌ {A = Reply} (reply.Called (Ok n)) _ = bad in cc)) r
call_accepts (Some line) false true None n r =
    ⊎_elim (λ bad. absurd (let no : ◌≡◌ {A = Reply} (reply.Called (Ok n)) _ = bad in cc))
    (λ bad. absurd (let no : ◌≡◌ {A = Reply} (reply.Called (Ok n)) _ = bad in cc)) r
call_accepts (Some line) false false drops n r = (
  line,
  refl,
  refl,
  refl,
  ⊎_elim (λ good. let same : ◌≡◌ {A = Reply} (reply.Called (Ok n))
      (reply.Called (Ok (length line))) =
      good in let equal : n ≡ length line = cc in equal) (λ bad. absurd (let no : ◌≡◌ {A = Reply} (reply.Called (Ok n)) _ = bad in cc)) r,
)

-- If a call was accepted and another line was dropped for it, the call has a line, and the queue dropped its oldest
-- line.
pub call_drops : (o : Option (List ℕ)) (stopped full : Bool) (drops : Option (List ℕ)) (n m : ℕ)
    → CallReplies o stopped full drops (reply.CallDropped n m)
    → (line : List ℕ) × (oldest : List ℕ) × (o ≡ Some line) × (drops ≡ Some oldest)
call_drops None stopped full drops n m (e, invalid, bad) =
    absurd (let no : ◌≡◌ {A = Reply} (reply.CallDropped n m) (reply.Called (Err e)) = bad in cc)
call_drops (Some line) true full drops n m r =
    ⊎_elim (λ bad. absurd (let no : ◌≡◌ {A = Reply} (reply.CallDropped n m) _ = bad in cc))
    (λ bad. absurd (let no : ◌≡◌ {A = Reply} (reply.CallDropped n m) _ = bad in cc)) r
call_drops (Some line) false true (Some oldest) n m r = (line, oldest, refl, refl)
call_drops (Some line) false true None n m r =
    ⊎_elim (λ bad. absurd (let no : ◌≡◌ {A = Reply} (reply.CallDropped n m) _ = bad in cc))
    (λ bad. absurd (let no : ◌≡◌ {A = Reply} (reply.CallDropped n m) _ = bad in cc)) r
call_drops (Some line) false false drops n m r =
    ⊎_elim (λ bad. absurd (let no : ◌≡◌ {A = Reply} (reply.CallDropped n m) _ = bad in cc))
    (λ bad. absurd (let no : ◌≡◌ {A = Reply} (reply.CallDropped n m) _ = bad in cc)) r

-- the error of a call that has no line to submit is a reply to the call
pub call_fails : (o : Option (List ℕ)) (stopped full : Bool) (drops : Option (List ℕ)) (e : MetricError) → LineFails o e
    → CallReplies o stopped full drops (reply.Called (Err e))
call_fails None stopped full drops e h = (e, h, refl)
call_fails (Some line) true full drops e h = inr (ap (λ (x : MetricError). reply.Called (Err x)) h)
call_fails (Some line) false true (Some oldest) e h = inr (ap (λ (x : MetricError). reply.Called (Err x)) h)
call_fails (Some line) false true None e h = inr (ap (λ (x : MetricError). reply.Called (Err x)) h)
call_fails (Some line) false false drops e h = inr (ap (λ (x : MetricError). reply.Called (Err x)) h)
