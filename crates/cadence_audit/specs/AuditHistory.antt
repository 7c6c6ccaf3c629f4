-- Which histories of a queue are legal. No queue is run again to find out: the state of the queue at a call follows
-- from the events before that call. A call for which memory ran out is no event.
use Rattle.std.specs.Prelude.{◌≡◌, ℕ, ◌==◌, Bool, true, false, if◌then◌else◌, List, [], ◌∷◌, ◌++◌, length}
use Rattle.std.specs.Prelude.{take, drop, slice_get, count_by, Option, Some}
use Rattle.std.specs.List.{list_any, flat_map}
use Rattle.cadence_queue.specs.Queue.{at_capacity}
use Rattle.cadence_queue.specs.declared.queue_core.Taken.{Taken}
use Rattle.cadence_queue.specs.declared.queue_core.Taken.TheVariants as taken
use Rattle.cadence_audit.specs.declared.event.Event.{Event}
use Rattle.cadence_audit.specs.declared.event.AuditCall.{AuditCall}
use Rattle.cadence_audit.specs.declared.event.AuditCall.TheVariants as call
use Rattle.cadence_audit.specs.declared.event.AuditReply.{AuditReply}
use Rattle.cadence_audit.specs.declared.event.AuditReply.TheVariants as reply
use Rattle.cadence_audit.specs.declared.event.SubmitReply.{SubmitReply}
use Rattle.cadence_audit.specs.declared.event.SubmitReply.TheVariants as submit

-- the reply to a take: the oldest waiting text; if no text waits, `Ended` if the queue is stopped, and `Empty` if not
abbrev pub take_reply : Bool → List (List ℕ) → Taken (List ℕ)
take_reply stopped [] = if stopped then taken.Ended else taken.Empty
take_reply stopped (text ∷ texts) = taken.Text text

-- the reply to a submit: `Stopped` if the queue is stopped, or else `Full` if it is full, or else `Accepted`
abbrev pub submit_reply : Bool → Bool → SubmitReply
submit_reply stopped full = if stopped then submit.Stopped else if full then submit.Full else submit.Accepted

module _ {Z : Type 0} where
  -- the text that a call with this reply put into the queue, as a list of one text, or of none
  abbrev pub text_put_by : AuditCall Z → AuditReply Z → List (List ℕ)
  text_put_by (call.Submit text) (reply.Submit submit.Accepted) = text ∷ []
  text_put_by _ _ = []

  -- the text that an event put into the queue, as a list of one text, or of none
  abbrev pub accepted_text : Event Z → List (List ℕ)
  accepted_text e = text_put_by e.call e.reply

  -- the text that a reply gave to the caller, as a list of one text, or of none
  abbrev pub returned_text : AuditReply Z → List (List ℕ)
  returned_text (reply.Take (taken.Text text)) = text ∷ []
  returned_text _ = []

  -- whether a call is a stop
  abbrev pub is_stop : AuditCall Z → Bool
  is_stop call.Stop = true
  is_stop _ = false

  -- the texts that the queue accepted, in order
  abbrev pub accepted_texts : List (Event Z) → List (List ℕ)
  accepted_texts events = flat_map accepted_text events

  -- the texts that were taken, in order
  abbrev pub taken_texts : List (Event Z) → List (List ℕ)
  taken_texts events = flat_map (λ e. returned_text e.reply) events

  -- how many texts were taken
  abbrev pub texts_taken_count : List (Event Z) → ℕ
  texts_taken_count events = length (taken_texts events)

  -- whether there was a stop
  abbrev pub was_stopped : List (Event Z) → Bool
  was_stopped events = list_any (λ e. is_stop e.call) events

  -- the texts that wait: the accepted ones without the first of them, which were taken
  abbrev pub waiting_texts : List (Event Z) → List (List ℕ)
  waiting_texts events = drop (texts_taken_count events) (accepted_texts events)

  -- The accepted texts are those that were taken, followed by those that wait. So no text is lost or taken twice, and
  -- none is taken before an older one.
  abbrev pub AreInOrder : List (Event Z) → Type 0
  AreInOrder events = accepted_texts events ≡ taken_texts events ++ waiting_texts events

  -- the reply of a queue with this capacity to a call, after these events
  abbrev pub reply_after : Option ℕ → List (Event Z) → AuditCall Z → AuditReply Z
  reply_after capacity events (call.Submit text) =
      reply.Submit (submit_reply (was_stopped events) (at_capacity capacity (waiting_texts events)))
  reply_after capacity events call.Take = reply.Take (take_reply (was_stopped events) (waiting_texts events))
  reply_after capacity events call.Stop = reply.Stop

  -- how many of the events are of this seat
  abbrev pub event_count : ℕ → List (Event Z) → ℕ
  event_count seat events = count_by (λ e. e.seat == seat) events

  -- The events of each seat have the counts 0, 1, 2, .. in order.
  abbrev pub AreCounted : List (Event Z) → Type 0
  AreCounted events = (i : ℕ) (e : Event Z) → slice_get events i ≡ Some e → e.count ≡ event_count e.seat (take i events)

  -- The event has the reply that the queue gives after these events, and the next count of its seat.
  abbrev pub MayFollow : Option ℕ → List (Event Z) → Event Z → Type 0
  MayFollow capacity events e = (e.reply ≡ reply_after capacity events e.call) × (e.count ≡ event_count e.seat events)

  -- A history is legal if each event may follow those before it.
  abbrev pub IsLegal : Option ℕ → List (Event Z) → Type 0
  IsLegal capacity events =
      (i : ℕ) (e : Event Z) → slice_get events i ≡ Some e → MayFollow capacity (take i events) e
