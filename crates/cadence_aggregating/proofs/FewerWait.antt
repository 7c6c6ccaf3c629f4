-- Lists of lines that wait.
use Rattle.std.proofs.Common.{◌≡◌, ◌<◌, ℕ, List, [], ◌∷◌, arith, drop, length, subst, sym, take}

-- If there is a first line, there are lines.
pub waits : (ws : List (List ℕ)) (line : List ℕ) → take 1 ws ≡ line ∷ [] → ws ≡ [] → ⊥
waits [] line first none = cc
waits (w ∷ ws) line first none = cc

shorter : (ws : List (List ℕ)) (line : List ℕ) → take 1 ws ≡ line ∷ [] → length (drop 1 ws) < length ws
shorter [] line first = cc
shorter (w ∷ ws) line first = omega arith

-- Fewer lines wait after the first one is dropped.
pub fewer_wait : (before after : List (List ℕ)) (line : List ℕ) → take 1 before ≡ line ∷ [] → after ≡ drop 1 before
    → length after < length before
fewer_wait before after line first rest = subst (λ ws. length ws < length before) (sym rest) (shorter before line first)
