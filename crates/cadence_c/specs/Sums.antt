-- Lines that are added up before a client keeps them.
use Rattle.std.specs.NonZero.{non_zero_usize_get}
use Rattle.std.specs.Prelude.{◌≡◌, ℕ, Bool, All, List, [], ◌∷◌, ◌++◌, take}
use Rattle.cadence_aggregating.specs.Builder.{at_least_one}
use Rattle.cadence_aggregating.specs.Origins.{ComesFrom}
use Rattle.cadence_aggregating.specs.Past.{Summarizes}
use Rattle.cadence_aggregating.specs.Summed.{AddsQuietly, accepted_in, gone_in, held_in, limits_in, waiting_in}
use Rattle.cadence_aggregating.specs.declared.summed.SummedLines.{SummedLines}
use Rattle.cadence_host.specs.ClientState.{ClientState, KeepsLine, LacksRoomForLine}

-- The sums are new: they accepted no line. They hold this many contexts of each kind, or one if the number is 0, and lines
-- of at most this many bytes. They pack values if and only if `packed` is true.
pub record IsNewSums (contexts longest : ℕ) (packed : Bool) (a : SummedLines) : Type 0 where
  pub contexts_are : non_zero_usize_get (limits_in a).most_contexts ≡ at_least_one contexts
  pub longest_is : (limits_in a).most_bytes ≡ longest
  pub packed_is : (limits_in a).packs_values ≡ packed
  pub accepted : accepted_in a ≡ []
  pub gone : gone_in a ≡ []
  pub waiting : waiting_in a ≡ []
  pub held : held_in a ≡ []

-- A client keeps these lines, one after the other.
abbrev pub KeepsLines : List (List ℕ) → ClientState → ClientState → Type 0
KeepsLines [] s t = t ≡ s
KeepsLines (line ∷ lines) s t = (mid : ClientState) × KeepsLine s line mid × KeepsLines lines mid t

-- Some lines left the sums, and the client kept them, in order. The limits of the sums are as before.
pub record GivesLines (a b : SummedLines) (s t : ClientState) : Type 0 where
  pub limits : limits_in b ≡ limits_in a
  pub given : List (List ℕ)
  pub gone : gone_in b ≡ gone_in a ++ given
  pub kept : KeepsLines given s t

-- The sums accepted these lines, and gave lines to the client.
pub record AddsUp (lines : List (List ℕ)) (a b : SummedLines) (s t : ClientState) : Type 0 where
  pub accepted : accepted_in b ≡ accepted_in a ++ lines
  pub gives : GivesLines a b s t

-- The sums accepted this line. If no line waited, and this one was to be held and could be, the client stayed as it was.
pub record AddsLine (line : List ℕ) (a b : SummedLines) (s t : ClientState) : Type 0 where
  pub adds : AddsUp (line ∷ []) a b s t
  pub quiet : waiting_in a ≡ [] → AddsQuietly a line s t

-- The sums accepted no line, gave lines to the client, and have nothing left.
pub record GivesAll (a b : SummedLines) (s t : ClientState) : Type 0 where
  pub adds : AddsUp [] a b s t
  pub held : held_in b ≡ []
  pub waiting : waiting_in b ≡ []

-- What the client kept of the sums, with what waits and what is held, is a summary of the accepted lines. Each line that it
-- kept or that waits is an accepted one, or was made of some of them and is as long as the sums allow.
pub record HasSummary (a : SummedLines) : Type 0 where
  pub summary : ∥ Summarizes (accepted_in a) (gone_in a ++ waiting_in a) (held_in a) ∥₁
  pub origins : ∥ All (ComesFrom (limits_in a).most_bytes (accepted_in a)) (gone_in a ++ waiting_in a) ∥₁

-- The client has no room for the first line that waits.
abbrev pub LacksRoomForFirst : SummedLines → ClientState → Type 0
LacksRoomForFirst a s = (line : List ℕ) × (take 1 (waiting_in a) ≡ line ∷ []) × LacksRoomForLine s line
