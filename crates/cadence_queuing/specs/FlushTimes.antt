-- When a worker that flushes its sink by time has to flush.
use Rattle.std.specs.Prelude.{◌≡◌, ◌+◌, ◌-◌, ◌≤◌, ◌<◌, ℕ, Option, Some, None, MatchOption, IsSomeAnd}
use Rattle.std.specs.Duration.{as_nanos}
use Rattle.std.specs.declared.time.Duration.{Duration}
use Rattle.std.specs.Time.{instant_nanos}
use Rattle.std.specs.declared.time.Instant.{Instant}

-- the shortest time in nanoseconds that a worker waits between two tries of a flush: a millisecond
abbrev pub shortest_wait : ℕ
shortest_wait = 1000000

-- The second period is the one that a worker keeps if it is given the first: the same one if that is 0 or at least a
-- millisecond, and otherwise one of at least a millisecond.
pub record CountsAs (given kept : Duration) : Type 0 where
  pub zero : as_nanos given ≡ 0 → kept ≡ given
  pub long : shortest_wait ≤ as_nanos given → kept ≡ given
  pub short : 0 < as_nanos given → shortest_wait ≤ as_nanos kept

-- A worker that is given a period keeps one as `CountsAs` says, and one that is given none keeps none.
abbrev pub CountsAsIfAny : Option Duration → Option Duration → Type 0
CountsAsIfAny given kept = MatchOption given (kept ≡ None) (λ period. IsSomeAnd kept (CountsAs period))

-- How much is left of this period now, by the time of the last flush and the time now. If some is left, it and the
-- time since the last flush are together the period. None is left if the whole period has passed, if there is no
-- period, or if the clock couldn't be read.
abbrev pub IsTimeLeft : Option Duration → Option Instant → Option Instant → Option Duration → Type 0
IsTimeLeft (Some period) (Some last) (Some now) left = MatchOption left
    (as_nanos period ≤ instant_nanos now - instant_nanos last)
    (λ some. (0 < as_nanos some) × (as_nanos some + (instant_nanos now - instant_nanos last) ≡ as_nanos period))
IsTimeLeft _ _ _ left = left ≡ None

-- How long a worker waits for lines before it tries a failed flush again: the rest of the period, but at least the
-- shortest wait.
pub record IsRetryWait (period : Option Duration) (last now : Option Instant) (wait : Duration) : Type 0 where
  pub long : shortest_wait ≤ as_nanos wait
  pub rest : (left : Duration) → IsTimeLeft period last now (Some left) → shortest_wait ≤ as_nanos left → as_nanos wait ≡ as_nanos left
