-- What lies under the lock of an audited queue, and what a caller sees of the queue outside the lock.
use Rattle.std.specs.Prelude.{◌≡◌, ℕ, ◌<◌, List, [], ◌∷◌, ◌++◌, length, slice_index, map, Option, Result, Ok, Err, MatchResult}
use Rattle.cadence_errors.specs.declared.SinkError.{SinkError}
use Rattle.cadence_errors.specs.declared.SinkError.TheVariants as refusal
use Rattle.cadence_queue.specs.QueueState.{Queue}
use Rattle.cadence_queue.specs.QueueModel.{Exit, by_take, IsQueueOf}
use Rattle.cadence_queue.specs.declared.policy.QueuePolicy.TheVariants.{Refuse}
use Rattle.cadence_audit.specs.declared.event.Event.{Event}
use Rattle.cadence_audit.specs.declared.event.AuditCall.{AuditCall}
use Rattle.cadence_audit.specs.declared.event.AuditReply.{AuditReply}
use Rattle.cadence_audit.specs.declared.event.SubmitReply.{SubmitReply}
use Rattle.cadence_audit.specs.declared.event.SubmitReply.TheVariants as submit
use Rattle.cadence_audit.specs.declared.errors.AuditError.{AuditError}
use Rattle.cadence_audit.specs.declared.errors.AuditError.TheVariants.{Stranger, OutOfMemory}
use Rattle.cadence_audit.specs.AuditHistory.{IsLegal, AreInOrder, accepted_texts, taken_texts, was_stopped, event_count}
use Rattle.cadence_audit.specs.AuditSeats.{SeatState, next_event, with_receipt}

-- what contracts see of an audited queue, outside its lock: the capacity, or none, and the number of seats
pub record AuditedQueueState : Type 0 where
  pub capacity : Option ℕ
  pub seats : ℕ

-- what contracts see of an audited core: the capacity, or none, the history so far, and the number of seats
pub record AuditedCoreState (Z : Type 0) : Type 0 where
  pub capacity : Option ℕ
  pub events : List (Event Z)
  pub seats : ℕ

-- how each text left the queue: it was taken, because an audited queue drops none
abbrev pub exits_of_events : {Z : Type 0} → List (Event Z) → List Exit
exits_of_events events = map (λ _. by_take) (taken_texts events)

-- The history is legal, and its calls bring a new queue, with this capacity and the policy to refuse, to the state of
-- this queue. The counts are the numbers of the seats' events.
pub record HasLegalHistory {Z : Type 0} (capacity : Option ℕ) (events : List (Event Z)) (core : Queue (List ℕ)) (counts : List ℕ) : Type 0 where
  pub legal : IsLegal capacity events
  pub order : AreInOrder events
  pub past : IsQueueOf (accepted_texts events) (exits_of_events events) core
  pub bound : core.capacity ≡ capacity
  pub refuses : core.policy ≡ Refuse
  pub stop : core.stopped ≡ was_stopped events
  pub counted : (k : ℕ) → k < length counts → slice_index counts k ≡ event_count k events

module _ {Z : Type 0} where
  -- an audited core without events
  abbrev pub new_core : Option ℕ → ℕ → AuditedCoreState Z
  new_core capacity seats = record { capacity = capacity; events = []; seats = seats }

  -- the core after the seat's next call, whose event is in the history
  abbrev pub with_event : AuditedCoreState Z → SeatState Z → AuditCall Z → AuditReply Z → AuditedCoreState Z
  with_event p s c r = record p { events = p.events ++ next_event s c r ∷ [] }

  -- The seat is one of this queue: it has as many receipts as the queue has events of it.
  abbrev pub IsKnown : AuditedCoreState Z → SeatState Z → Type 0
  IsKnown p s = (s.number < p.seats) × (length s.receipts ≡ event_count s.number p.events)

  -- This is the error of a call that did nothing: `Stranger` if the seat is not one of this queue, and `OutOfMemory` if
  -- it is.
  abbrev pub IsAuditRefusal : AuditedCoreState Z → SeatState Z → AuditError → Type 0
  IsAuditRefusal p s Stranger = IsKnown p s → ⊥
  IsAuditRefusal p s OutOfMemory = IsKnown p s

  -- A call returned `Ok`: the core has its event, and the seat its receipt.
  abbrev pub RecordsCall : AuditedCoreState Z → AuditedCoreState Z → SeatState Z → SeatState Z → AuditCall Z → AuditReply Z → Type 0
  RecordsCall p q s t c r = (q ≡ with_event p s c r) × (t ≡ with_receipt s c r)

  -- A call returned this error: it is the right error, and neither the core nor the seat has changed.
  abbrev pub DoesNothing : AuditedCoreState Z → AuditedCoreState Z → SeatState Z → SeatState Z → AuditError → Type 0
  DoesNothing p q s t e = IsAuditRefusal p s e × (q ≡ p) × (t ≡ s)

-- The queue refused a text with this error, and the reply says so: it is `Stopped` or `Full`. If memory ran out, there
-- is no reply, and the text comes back.
abbrev pub IsRefusalReply : SinkError → List ℕ → Result SubmitReply (List ℕ) → Type 0
IsRefusalReply refusal.ChannelDisconnected text reply = reply ≡ Ok submit.Stopped
IsRefusalReply refusal.ChannelFull text reply = reply ≡ Ok submit.Full
IsRefusalReply _ text reply = reply ≡ Err text

-- The reply to a submit follows from this result of `QueueCore::submit`.
abbrev pub IsSubmitReply : Result (Option (List ℕ)) (SinkError × List ℕ) → Result SubmitReply (List ℕ) → Type 0
IsSubmitReply answer reply = MatchResult answer (λ _. reply ≡ Ok submit.Accepted) (λ e. IsRefusalReply e.0 e.1 reply)
