-- Flushes that each send at least one line send in the end all that is held.
use Rattle.std.proofs.Common.{◌≡◌, ℕ, zero, suc, ◌+◌, ◌≤◌, List, [], ◌∷◌, ◌++◌, length, refl, sym, ap, ◌∙◌, arith, append-nil, length-append}
use Rattle.cadence_schedule.specs.InTurn.{Stock, SendEach, AllAreSent}

-- Nothing is lost on the way.
together : (n : ℕ) (old new : Stock) → SendEach n old new → new.sent ++ new.held ≡ old.sent ++ old.held
together zero old new none = ap (λ s. s.sent ++ s.held) none
together (suc n) old new (mid, first, rest) = together n mid new rest ∙ first.same

-- Each flush sends at least one line.
longer : (n : ℕ) (old new : Stock) → SendEach n old new → n + length old.sent ≤ length new.sent
longer zero old new none =
    let same : length new.sent ≡ length old.sent = ap (λ s. length s.sent) none in
    omega arith
longer (suc n) old new (mid, first, rest) =
    let more : n + length mid.sent ≤ length new.sent = longer n mid new rest in
    let one : suc (length old.sent) ≤ length mid.sent = first.some in
    omega arith

-- A list without elements is empty.
none_left : {X : Type 0} (xs : List X) → length xs ≤ 0 → xs ≡ []
none_left [] short = refl
none_left (x ∷ xs) short = absurd (omega (arith, short))

pub all_are_sent : AllAreSent
all_are_sent old new each =
    let same : new.sent ++ new.held ≡ old.sent ++ old.held = together (length old.held) old new each in
    let more : length old.held + length old.sent ≤ length new.sent = longer (length old.held) old new each in
    let lengths : length new.sent + length new.held ≡ length old.sent + length old.held =
    sym (length-append new.sent new.held) ∙ ap length same ∙ length-append old.sent old.held in
    let short : length new.held ≤ 0 = omega arith in
    let none : new.held ≡ [] = none_left new.held short in
    (none, sym (append-nil new.sent) ∙ ap (λ held. new.sent ++ held) (sym none) ∙ same)
