use Rattle.std.proofs.Common.{◌≡◌, ◌==◌, ◌<◌, ℕ, count_by}
use Rattle.cadence_audit.proofs.seat.has_all_seats.Given as goal

abbrev pub invariant-loop-number : goal.invariant-loop-number
invariant-loop-number g l = (k : ℕ) → k < l.number → count_by (λ s. s.number == k) l.seats ≡ 1
