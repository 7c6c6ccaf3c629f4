-- What was offered to a writer, packet by packet, and what each call of a packer adds to it.
use Rattle.std.specs.Prelude.{◌≡◌, ℕ, ◌<◌, Bool, true, false, List, [], ◌∷◌, ◌++◌, length, ◌⊎◌, Option, Some, None, Result, Ok, Err}
use Rattle.std.specs.Prelude.{IfOk, OnErr, All, is_ok}
use Rattle.cadence_errors.specs.declared.SinkError.{SinkError}
use Rattle.cadence_flow.specs.Frame.{Format, IsNotOversize, IsOversize, PassesRoom}

-- a packet that was offered to a writer and not refused, with the number of its bytes that the writer took
abbrev pub Offer : Type 0
Offer = List ℕ × ℕ

-- the offers so far, the oldest first; `None` for a writer that doesn't list them
abbrev pub Offers : Type 0
Offers = Option (List Offer)

-- The writer took only a part of the packet: a short count.
abbrev pub IsShort : Offer → Type 0
IsShort offer = offer.1 < length offer.0

-- A packet that the writer took, whole or in part, is one more offer. A packet that it refused is none.
abbrev pub IsOffered : Offers → Offers → List ℕ → Result ℕ SinkError → Type 0
IsOffered None new packet result = Unit {0}
IsOffered (Some old) new packet (Ok n) = new ≡ Some (old ++ (packet, n) ∷ [])
IsOffered (Some old) new packet (Err e) = new ≡ Some old

-- Only short counts were added.
abbrev pub AddsShorts : List Offer → Offers → Type 0
AddsShorts old new = (shorts : List Offer) × All IsShort shorts × (new ≡ Some (old ++ shorts))

-- Short counts were added, perhaps none, and then one packet that was taken whole.
abbrev pub AddsWhole : List Offer → Offers → Type 0
AddsWhole old new =
    (shorts : List Offer)
    × (last : List ℕ)
    × All IsShort shorts
    × (new ≡ Some (old ++ (shorts ++ (last, length last) ∷ [])))

-- Sending a text adds short counts and, if it succeeds, one packet that was taken whole. The flag says whether it did.
abbrev pub SendsOffers : Offers → Offers → Bool → Type 0
SendsOffers None new ok = Unit {0}
SendsOffers (Some old) new true = AddsWhole old new
SendsOffers (Some old) new false = AddsShorts old new

-- A flush sends the held text. If nothing is held, it adds no offer.
abbrev pub FlushesOffers : Offers → Offers → List ℕ → Bool → Type 0
FlushesOffers None new held ok = Unit {0}
FlushesOffers (Some old) new [] ok = new ≡ Some old
FlushesOffers (Some old) new (b ∷ bs) ok = SendsOffers (Some old) new ok

-- Writing a line that doesn't fit into the room that the held text leaves flushes, and then offers an oversize line
-- once.
pub record WritesOffers (format : Format) (old new : Offers) (held rest line : List ℕ) (result : Result ℕ SinkError) : Type 0 where
  -- the held text goes first: the call flushes, and offers no more
  pub closes : PassesRoom format held line → IsNotOversize format line → FlushesOffers old new held (is_ok result)
  -- an oversize line: after the flush it is one packet
  pub alone : IsOversize format line
      → IfOk result (λ n. (mid : Offers) × FlushesOffers old mid held true × IsOffered mid new line (Ok n))
  -- an oversize line and an error: the flush failed, or it succeeded and the line was refused
  pub refused : IsOversize format line
      → OnErr result (FlushesOffers old new held false ⊎ (FlushesOffers old new held true × (rest ≡ [])))
