-- The offers that sending a text adds, step by step.
use Rattle.std.proofs.Common.{◌≡◌, ℕ, ◌+◌, ◌-◌, ◌<◌, false, [], ◌∷◌, ◌++◌, List, length, ap, ◌∙◌, subst, arith, append_assoc}
use Rattle.std.proofs.Common.{Some, None, Ok}
use Rattle.std.proofs.lemmas.List.Elements.{All-push}
use Rattle.cadence_flow.specs.Offers.{Offer, Offers, IsShort, IsOffered, AddsShorts, AddsWhole, SendsOffers}

-- Since the offers `old`, the first `sent` bytes of a text of `len` bytes were taken.
abbrev pub OfferedSoFar : Offers → Offers → ℕ → ℕ → Type 0
OfferedSoFar None now len sent = Unit {0}
OfferedSoFar (Some old) now len sent = (sent < len → AddsShorts old now) × (0 < sent → sent ≡ len → AddsWhole old now)

module _ (old : List Offer) (mid new : Offers) (packet : List ℕ) where
  after_shorts : (n : ℕ) (shorts : List Offer) → mid ≡ Some (old ++ shorts) → IsOffered mid new packet (Ok n)
      → new ≡ Some (old ++ (shorts ++ (packet, n) ∷ []))
  after_shorts n shorts is step =
      subst (λ m. IsOffered m new packet (Ok n)) is step ∙ ap Some (append_assoc old shorts ((packet, n) ∷ []))

  one_short : (n : ℕ) → n < length packet → AddsShorts old mid → IsOffered mid new packet (Ok n) → AddsShorts old new
  one_short n less (shorts, all, is) step = (shorts ++ (packet, n) ∷ [], All-push IsShort shorts (packet, n) all less, after_shorts n shorts is step)

  one_whole : (n : ℕ) → n ≡ length packet → AddsShorts old mid → IsOffered mid new packet (Ok n) → AddsWhole old new
  one_whole n all_of (shorts, all, is) step =
      (shorts, packet, all, after_shorts n shorts is step ∙ ap (λ k. Some (old ++ (shorts ++ (packet, k) ∷ []))) all_of)

-- What is true of the first `sent` bytes stays true after one more packet of the text was taken, in part or whole.
pub offered_more : (old mid new : Offers) (packet : List ℕ) (len sent n : ℕ) → OfferedSoFar old mid len sent
    → sent < len → length packet ≡ len - sent → IsOffered mid new packet (Ok n) → OfferedSoFar old new len (sent + n)
offered_more None mid new packet len sent n before more is step = tt
offered_more (Some old) mid new packet len sent n before more is step = (
  λ left. one_short old mid new packet n (omega arith) (before.0 more) step,
  λ some all. one_whole old mid new packet n (omega arith)
      (before.0 more) step,
)

-- If the writer took 0 bytes of the rest of the text, sending the text failed, and added only short counts.
pub offered_nothing : (old mid new : Offers) (packet : List ℕ) (len sent n : ℕ) → OfferedSoFar old mid len sent
    → sent < len → length packet ≡ len - sent → n ≡ 0 → IsOffered mid new packet (Ok n) → SendsOffers old new false
offered_nothing None mid new packet len sent n before more is none step = tt
offered_nothing (Some old) mid new packet len sent n before more is none step = one_short old mid new packet n (omega arith) (before.0 more) step
