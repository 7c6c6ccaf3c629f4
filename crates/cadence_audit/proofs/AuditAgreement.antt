-- When the receipts of seats are among the events of a history, and when they agree with it.
use Rattle.std.proofs.Common.{◌≡◌, ℕ, ◌+◌, ◌<◌, ◌≤◌, ◌==◌, Bool, true, false, cond, List, [], ◌∷◌, ◌++◌, zero, suc, length, take, get_or}
use Rattle.std.proofs.Common.{slice_get, All, Contains, Option, Some, None, not, eqb, inl, inr, subst, sym, ap, refl, arith, ◌∙◌}
use Rattle.std.proofs.lemmas.Bool.Decides.{nat_tests}
use Rattle.std.proofs.lemmas.List.{take_all, take-take, length-append}
use Rattle.std.proofs.lemmas.List.Sums.{sum_by-take-le, sum_by_more}
use Rattle.std.proofs.lemmas.List.Elements.{All-more, Contains-get_or}
use Rattle.std.proofs.lemmas.Bool.{cases_order, cases_lt}
use Rattle.std.proofs.lemmas.Option.{slice_get_read, slice_get_cases, get_or_from_slice_get, same_Some}
use Rattle.std.specs.Option.{option_eq}
use Rattle.cadence_audit.specs.declared.event.Event.{Event}
use Rattle.cadence_audit.specs.AuditHistory.{AreCounted, event_count}
use Rattle.cadence_audit.specs.AuditSeats.{SeatState, AreReceiptsOf, AreNewSeats, receipt_count}

-- If a test is true of a fact and returned false, the fact is false.
pub fails : {P : Type 0} {b : Bool} → (P → b ≡ true) → b ≡ false → P → ⊥
fails test is p = let t = test p in cc

-- Two capacities are the same if the test `!=` says that they don't differ.
pub same_capacity : (a b : Option ℕ) → false ≡ not (option_eq eqb a b) → a ≡ b
same_capacity (Some a) (Some b) is = ap Some (grind (arith, nat_tests))
same_capacity (Some a) None is = cc
same_capacity None (Some b) is = cc
same_capacity None None is = refl

module _ {X : Type 0} (P : X → Type 0) (xs : List X) (i : ℕ) where
  -- A fact is not true of all elements if it is false of one.
  pub all_not : (x : X) → i < length xs → x ≡ get_or xs i x → (P x → ⊥) → All P xs → ⊥
  all_not x lt is not all = not (subst P (sym is) (all i x lt))

  -- A fact that is true of the first elements and of the next one is true of one element more.
  pub all_more : (x : X) → i < length xs → x ≡ get_or xs i x → P x → All P (take i xs) → All P (take (i + 1) xs)
  all_more x lt is px all = All-more P xs i x lt all (subst P is px)

  -- A fact is true of all elements if it is true up to the end of the list.
  pub all_done : length xs ≤ i → All P (take i xs) → All P xs
  all_done le all = subst (All P) (take_all i xs le) all

-- A number counts as 1 if it equals the one that is counted, and as 0 otherwise.
count_of_same : (a b : ℕ) → a ≡ b → ◌≡◌ {A = ℕ} (cond (a == b) 1 0) 1
count_of_same a b is = grind (arith, nat_tests)

count_of_other : (a b : ℕ) → (a ≡ b → ⊥) → ◌≡◌ {A = ℕ} (cond (a == b) 1 0) 0
count_of_other a b other = grind (arith, nat_tests)

-- An element that a list contains is at some place in it.
contains_place : {X : Type 0} (xs : List X) (x : X) → Contains xs x → (k : ℕ) × (k < length xs) × (slice_get xs k ≡ Some x)
contains_place xs x h = (h.0, h.1, slice_get_read xs (length xs) h.0 x refl h.1 (sym h.2))

module _ {Z : Type 0} (events : List (Event Z)) (s : ℕ) where
  -- A seat has no fewer events later on.
  event_count-take-le : (a b : ℕ) → a ≤ b → event_count s (take a events) ≤ event_count s (take b events)
  event_count-take-le a b le =
      subst (λ l. event_count s l ≤ event_count s (take b events)) (take-take a b events le)
      (sum_by-take-le (λ (e : Event Z). cond (e.seat == s) 1 0) (take b events) a)

  -- An event of the seat is one more of its events.
  pub event_count-more : (i : ℕ) (e : Event Z) → i < length events → e ≡ get_or events i e → e.seat ≡ s
      → event_count s (take (i + 1) events) ≡ event_count s (take i events) + 1
  event_count-more i e lt is mine =
      let one = count_of_same _ s (ap (λ (x : Event Z). x.seat) (sym is) ∙ mine) in
      omega (arith, one, sum_by_more (λ (x : Event Z). cond (x.seat == s) 1 0) events i e lt)

  -- An event of another seat doesn't add to the events of this seat.
  pub event_count-other : (i : ℕ) (e : Event Z) → i < length events → e ≡ get_or events i e → (e.seat ≡ s → ⊥)
      → event_count s (take (i + 1) events) ≡ event_count s (take i events)
  event_count-other i e lt is other =
      let none = count_of_other _ s (λ same. other (ap (λ (x : Event Z). x.seat) is ∙ same)) in
      omega (arith, none, sum_by_more (λ (x : Event Z). cond (x.seat == s) 1 0) events i e lt)

  -- the place of a seat's event, given by how many events the seat had before it
  abbrev IsAt : ℕ → Event Z → ℕ → Type 0
  IsAt i e n = (i < length events) × (slice_get events i ≡ Some e) × (e.seat ≡ s) × (event_count s (take i events) ≡ n)

  -- Before a later event of a seat there is at least one event more of that seat.
  later : (i j : ℕ) (e : Event Z) (n : ℕ) → IsAt i e n → i < j → n < event_count s (take j events)
  later i j e n at lt =
      omega (
        arith,
        event_count-more i e at.0 (sym (get_or_from_slice_get events i e e at.1)) at.2,
        event_count-take-le (i + 1) j
            (omega (arith, lt)),
        at.3,
      )

  -- A seat has only one event with a given count.
  same_place : (i j : ℕ) (e r : Event Z) (n : ℕ) → IsAt i e n → IsAt j r n → r ≡ e
  same_place i j e r n at there =
      elim (cases_order i j) [
        | inl same ↦ same_Some r e (sym there.1 ∙ (ap (slice_get events) (sym same) ∙ at.1))
        | inr (inl lt) ↦ absurd (omega (arith, later i j e n at lt, there.3))
        | inr (inr lt) ↦ absurd (omega (arith, later j i r n there lt, at.3))
      ]

  module _ (counted : AreCounted events) where
    -- A receipt among the events is at the place before which its seat has as many events as its count says.
    receipt_place : (r : Event Z) (n : ℕ) → r.seat ≡ s → r.count ≡ n → Contains events r → (j : ℕ) × IsAt j r n
    receipt_place r n seat count h =
        let place = contains_place events r h in
        (place.0, (place.1, place.2, seat, ap (λ k. event_count k (take place.0 events)) (sym seat) ∙ sym (counted place.0 r place.2) ∙ count))

    module _ (receipts : List (Event Z)) (own : AreReceiptsOf s receipts) where
      -- If the seat's n-th event is not its n-th receipt, that receipt is not among the events.
      pub refuted : (n i : ℕ) (e r : Event Z) → n ≡ event_count s (take i events) → i < length events → e ≡ get_or events i e → e.seat ≡ s
          → n < length receipts → r ≡ get_or receipts n r → (r ≡ e → ⊥) → All (Contains events) receipts → ⊥
      refuted n i e r now lt is mine in_receipts at other all =
          let got : slice_get receipts n ≡ Some r = slice_get_read receipts (length receipts) n r refl in_receipts at in
          let mine_is = own n r got in
          let place = receipt_place r n mine_is.0 mine_is.1 (subst (Contains events) (sym at) (all n r in_receipts)) in
          let here : IsAt i e n = (lt, slice_get_read events (length events) i e refl lt is, mine, sym now) in
          other (same_place i place.0 e r n here place.1)

      -- If the seat has fewer events than receipts, some receipt is not among the events.
      pub missing : (n : ℕ) → n ≡ event_count s events → n < length receipts → All (Contains events) receipts → ⊥
      missing n now lt all =
          elim (slice_get_cases receipts n).1 [
            | inl found ↦
                let mine_is = own n found.0 found.2 in
                let place = receipt_place found.0 n mine_is.0 mine_is.1 (subst (Contains events) found.3 (all n found.0 lt)) in
                absurd (omega (
                  arith,
                  later place.0 (length events) found.0 n place.1 place.1.0,
                  ap (event_count s)
                      (take_all (length events) events (omega arith)),
                  now,
                ))
            | inr past ↦ absurd (omega (arith, past.0, lt))
          ]

-- One more receipt is among the events (`held_more`), or there are no more receipts (`held_all`).
module _ {X : Type 0} (events receipts : List X) (n : ℕ) where
  pub held_more : (i : ℕ) (e r : X) → i < length events → e ≡ get_or events i e → n < length receipts → r ≡ get_or receipts n r → r ≡ e
      → All (Contains events) (take n receipts) → All (Contains events) (take (n + 1) receipts)
  held_more i e r lt is in_receipts at same all =
      all_more (Contains events) receipts n r in_receipts at (subst (Contains events) (sym is ∙ sym same) (Contains-get_or events i e lt)) all

  pub held_all : length receipts ≤ n → All (Contains events) (take n receipts) → All (Contains events) (take (n + 1) receipts)
  held_all le all = subst (All (Contains events)) (take_all n receipts le ∙ sym (take_all (n + 1) receipts (omega (arith, le)))) all

-- An element stays at its place if one more is added at the end, and the added one is at the last place.
get_before_push : {X : Type 0} (xs : List X) (x : X) (k : ℕ) → k < length xs → slice_get (xs ++ x ∷ []) k ≡ slice_get xs k
get_before_push [] x k lt = absurd (omega (arith, lt))
get_before_push (y ∷ ys) x zero lt = refl
get_before_push (y ∷ ys) x (suc k) lt = get_before_push ys x k (omega (arith, lt))

get_at_push : {X : Type 0} (xs : List X) (x : X) → slice_get (xs ++ x ∷ []) (length xs) ≡ Some x
get_at_push [] x = refl
get_at_push (y ∷ ys) x = get_at_push ys x

-- New seats and one more seat without receipts, whose number is the next one, are new seats.
pub new_seats_more : {Z : Type 0} (n : ℕ) (seats : List (SeatState Z)) → AreNewSeats n seats
    → AreNewSeats (n + 1) (seats ++ record { number = n; receipts = [] } ∷ [])
new_seats_more n seats new = (
  omega (arith, new.0, length-append seats (record { number = n; receipts = [] } ∷ [])),
  λ k lt. elim (cases_lt k n) [
    | inl below ↦ get_before_push seats _ k (omega (arith, new.0, below)) ∙ new.1 k below
    | inr ge ↦
        let here : k ≡ length seats = omega (arith, ge, lt, new.0) in
        let last : k ≡ n = omega (arith, ge, lt) in
        rw (here, ← new.0) (get_at_push seats _)
  ],
)

-- The receipts of the first seats, up to one of them, are those of that seat and of the earlier ones. They are at most
-- all receipts.
pub receipts_more : {Z : Type 0} (seats : List (SeatState Z)) (i n : ℕ) (seat : SeatState Z)
    → i < length seats → seat ≡ get_or seats i seat → n ≡ length seat.receipts
    → (receipt_count (take (i + 1) seats) ≡ receipt_count (take i seats) + n)
    × (receipt_count (take (i + 1) seats) ≤ receipt_count seats)
receipts_more {Z} seats i n seat lt is count =
    let count_of : SeatState Z → ℕ = λ s. length s.receipts in
    let own : count_of (get_or seats i seat) ≡ n = ap count_of (sym is) ∙ sym count in
    let more = sum_by_more count_of seats i seat lt in
    (omega (arith, more, own), sum_by-take-le count_of seats (i + 1))
