-- What several flushes send, one after the other, if each of them sends at least one line.
use Rattle.std.specs.Prelude.{◌≡◌, ◌<◌, ℕ, zero, suc, List, [], ◌++◌, length}
use Rattle.cadence_aggregate.specs.Server.{Sample}

-- what the lines that a sink took say, and what an aggregator still holds
pub record Stock : Type 0 where
  pub sent : List Sample
  pub held : List Sample

-- A flush leads from one stock to the other, as the clause `same` of `Aggregator::flush` says, and sends at least one line.
pub record SendsSome (old new : Stock) : Type 0 where
  pub same : new.sent ++ new.held ≡ old.sent ++ old.held
  pub some : length old.sent < length new.sent

-- There are this many flushes between the two stocks, and each of them sends at least one line.
abbrev pub SendEach : ℕ → Stock → Stock → Type 0
SendEach zero old new = new ≡ old
SendEach (suc n) old new = (mid : Stock) × SendsSome old mid × SendEach n mid new

-- If there were as many such flushes as held contexts, all of these contexts were sent in their order, and none is held.
abbrev pub AllAreSent : Type 0
AllAreSent =
    (old new : Stock) → SendEach (length old.held) old new → (new.held ≡ []) × (new.sent ≡ old.sent ++ old.held)
