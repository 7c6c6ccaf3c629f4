-- How long the lines of timers, histograms and distributions are, whose values are packed.
use Rattle.std.specs.Prelude.{ℕ, ◌+◌, ◌≤◌, length, List, [], ◌∷◌, Result, Ok, Err}
use Rattle.cadence_aggregate.specs.Server.{Sample, amount, level, member, timing, unclear, other}

-- Each line of values has at most this many bytes: those of its context, a colon, and those of the values.
abbrev pub AreWithin : ℕ → List Sample → Type 0
AreWithin most [] = Unit {0}
AreWithin most (amount c n ∷ xs) = AreWithin most xs
AreWithin most (level c v ∷ xs) = AreWithin most xs
AreWithin most (member c ∷ xs) = AreWithin most xs
AreWithin most (timing c t ∷ xs) = (length c + length t + 1 ≤ most) × AreWithin most xs
AreWithin most (unclear l ∷ xs) = AreWithin most xs
AreWithin most (other l ∷ xs) = AreWithin most xs

-- No line of values of the second list is longer than this limit, unless one of the first is as long.
abbrev pub StayWithin : ℕ → List Sample → List Sample → Type 0
StayWithin limit xs ys = (most : ℕ) → limit ≤ most → AreWithin most xs → AreWithin most ys

-- what a call says that had this result: nothing, if it failed
abbrev pub if_ok : {T F : Type 0} → Result T F → List Sample → List Sample
if_ok (Ok x) said = said
if_ok (Err e) said = []
