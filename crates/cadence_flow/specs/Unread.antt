-- What contracts see of a socket's answer that wasn't counted yet, and of a receipt that it was.
use Rattle.std.specs.Prelude.{◌≡◌, ℕ, Option, Some, None, Result, MatchResult}
use Rattle.cadence_errors.specs.declared.SinkError.{SinkError}
use Rattle.cadence_flow.specs.declared.stats.Counted.{Counted}
use Rattle.cadence_flow.specs.declared.stats.Unread.{Unread}

-- how many bytes the socket took, or none if it refused the packet
abbrev pub count_taken : Unread → Option ℕ
count_taken a = a.taken

-- the length of the packet
abbrev pub len_of : Unread → ℕ
len_of a = a.len.value

-- how many bytes of a line were counted as taken, or none if the line was counted as refused
abbrev pub counted_of : Counted → Option ℕ
counted_of c = c.taken.value

-- The line was counted with this result.
abbrev pub IsCounted : Counted → Result ℕ SinkError → Type 0
IsCounted c answer = MatchResult answer (λ n. counted_of c ≡ Some n) (λ _. counted_of c ≡ None)
