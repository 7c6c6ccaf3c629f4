-- The seats of an audited queue, with their receipts.
use Rattle.std.specs.Prelude.{◌≡◌, ℕ, ◌<◌, ◌==◌, List, [], ◌∷◌, ◌++◌, length, slice_get, All, Contains, sum_by, count_by, Some}
use Rattle.cadence_audit.specs.declared.event.Event.{Event}
use Rattle.cadence_audit.specs.declared.event.AuditCall.{AuditCall}
use Rattle.cadence_audit.specs.declared.event.AuditReply.{AuditReply}

-- what contracts see of a seat: its number, and the receipts of its calls, the oldest first
pub record SeatState (Z : Type 0) : Type 0 where
  pub number : ℕ
  pub receipts : List (Event Z)

module _ {Z : Type 0} where
  -- the event of the seat's next call
  abbrev pub next_event : SeatState Z → AuditCall Z → AuditReply Z → Event Z
  next_event s c r = record { seat = s.number; count = length s.receipts; call = c; reply = r }

  -- the seat after its next call, of which it has the receipt
  abbrev pub with_receipt : SeatState Z → AuditCall Z → AuditReply Z → SeatState Z
  with_receipt s c r = record s { receipts = s.receipts ++ next_event s c r ∷ [] }

  -- Each receipt has the seat's number, and its own place among the receipts as its count.
  abbrev pub AreReceiptsOf : ℕ → List (Event Z) → Type 0
  AreReceiptsOf number receipts =
      (k : ℕ) (r : Event Z) → slice_get receipts k ≡ Some r → (r.seat ≡ number) × (r.count ≡ k)

  -- These are n seats without receipts, numbered from 0 in order.
  abbrev pub AreNewSeats : ℕ → List (SeatState Z) → Type 0
  AreNewSeats n seats =
      (length seats ≡ n) × ((k : ℕ) → k < n → slice_get seats k ≡ Some (record { number = k; receipts = [] }))

  -- The numbers of the seats are those below n, each once.
  abbrev pub HasAllSeats : ℕ → List (SeatState Z) → Type 0
  HasAllSeats n seats = (length seats ≡ n) × ((k : ℕ) → k < n → count_by (λ s. s.number == k) seats ≡ 1)

  -- how many receipts the seats have together
  abbrev pub receipt_count : List (SeatState Z) → ℕ
  receipt_count seats = sum_by (λ s. length s.receipts) seats

  -- Each receipt of the seat is among the events, with the seat's number and its own place as its count.
  abbrev pub IsRecordedIn : List (Event Z) → SeatState Z → Type 0
  IsRecordedIn events s = All (Contains events) s.receipts × AreReceiptsOf s.number s.receipts

  -- There are as many events as receipts, and each receipt is among the events, with its seat and its count.
  abbrev pub Agrees : List (Event Z) → List (SeatState Z) → Type 0
  Agrees events seats = (length events ≡ receipt_count seats) × All (IsRecordedIn events) seats
