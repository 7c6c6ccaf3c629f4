-- For how long the system is asked to wait.
use Rattle.std.specs.Prelude.{◌≢◌, ◌+◌, ◌*◌, ◌<◌, ◌≤◌, ℕ, ℤ, pos, negsuc}
use Rattle.std.specs.Duration.{as_nanos}
use Rattle.std.specs.declared.time.Duration.{Duration}

-- This many milliseconds are at least as long as this time, and less than one millisecond longer. If they are as many
-- as an `i32` can be, they may be shorter.
pub record IsWaitFor (most : Duration) (millis : ℕ) : Type 0 where
  pub enough : millis ≢ 2147483647 → as_nanos most ≤ millis * 1000000
  pub no_longer : millis * 1000000 < as_nanos most + 1000000

-- The timeout, in milliseconds, is one for this time. It isn't negative, which would be a wait without an end.
abbrev pub IsTimeout : Duration → ℤ → Type 0
IsTimeout most (pos millis) = IsWaitFor most millis
IsTimeout most (negsuc n) = ⊥
