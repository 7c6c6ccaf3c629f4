-- When a list of lines is as short as it can be.
use Rattle.std.specs.Prelude.{◌≤◌, length, List, [], ◌∷◌}
use Rattle.cadence_aggregate.specs.Server.{Sample, amount, level, member, timing, unclear, other, IsSummary}

-- the lines that are not of timers, histograms and distributions: the values of those may be packed in several ways
abbrev pub unpacked : List Sample → List Sample
unpacked [] = []
unpacked (amount c n ∷ xs) = amount c n ∷ unpacked xs
unpacked (level c v ∷ xs) = level c v ∷ unpacked xs
unpacked (member c ∷ xs) = member c ∷ unpacked xs
unpacked (timing c t ∷ xs) = unpacked xs
unpacked (unclear l ∷ xs) = unclear l ∷ unpacked xs
unpacked (other l ∷ xs) = other l ∷ unpacked xs

-- Each list of lines from which a server knows the same has at least as many lines as this one has without its lines of
-- packed values.
abbrev pub AreFewest : List Sample → Type 0
AreFewest xs = (ys : List Sample) → IsSummary xs ys → length (unpacked xs) ≤ length ys
