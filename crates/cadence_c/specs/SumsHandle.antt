-- What a handle of sums contains, and what a call does to it and to the client that takes its lines.
use Rattle.std.specs.Prelude.{Option, List, IsSomeAnd, option_map}
use Rattle.cadence_aggregating.specs.declared.keys.LineKey.{LineKey}
use Rattle.cadence_aggregating.specs.declared.summed.SummedLines.{SummedLines}
use Rattle.cadence_host.specs.ClientState.{ClientState}
use Rattle.cadence_c.specs.Handle.{OnOpen}
use Rattle.cadence_c.specs.declared.handle.Handle.{Handle}
use Rattle.cadence_c.specs.declared.sums_handle.Sums.{Sums}
use Rattle.cadence_c.specs.declared.sums_handle.SumsHandle.{SumsHandle}

-- what a handle contains, or none if it is closed
abbrev pub contents : SumsHandle → Option Sums
contents h = h.pointer.sums

-- the sums of a handle, or none if it is closed
abbrev pub open_sums_of : SumsHandle → Option SummedLines
open_sums_of h = option_map (λ s. s.lines) (contents h)

-- the keys of a handle, or none if it is closed
abbrev pub keys_of : SumsHandle → Option (List LineKey)
keys_of h = option_map (λ s. s.keys.items) (contents h)

-- Sums and a client are there before and after a call, and the relation leads from the old ones to the new ones.
abbrev pub OnBothOpen : (SummedLines → SummedLines → ClientState → ClientState → Type 0) → SumsHandle → SumsHandle → Handle → Handle → Type 0
OnBothOpen R old new from to =
    IsSomeAnd (open_sums_of old) (λ a. IsSomeAnd (open_sums_of new) (λ b. OnOpen (R a b) from to))
