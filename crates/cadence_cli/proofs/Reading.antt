-- A reader that was read up to its end: the bytes that were read are the bytes that it had left.
use Rattle.std.proofs.Common.{◌≡◌, ℕ, ◌<◌, Option, None, Some, List, [], ◌++◌, IfSome, length, take, ap, sym, subst, ◌∙◌}
use Rattle.std.proofs.lemmas.List.{append-nil}
use Rattle.std.specs.Io.KnownBytes.{Consumes, IsAtEnd}

-- If the reader returned `got`, then no bytes, and was at its end then, it had `got` left.
whole : (old mid new : Option (List ℕ)) (got : List ℕ) → Consumes old mid got → Consumes mid new [] → IsAtEnd new → IfSome old (λ left. got ≡ left)
whole None mid new got first last end = tt
whole (Some xs) None new got first last end = elim first [ ]
whole (Some xs) (Some ys) None got first last end = elim last [ ]
whole (Some xs) (Some ys) (Some zs) got first last end = sym (first ∙ ap (λ rest. got ++ rest) (last ∙ end) ∙ append-nil got)

-- If the reader returned `got`, and then a read into a buffer with room returned no bytes, it had `got` left.
pub read_whole : (old mid new : Option (List ℕ)) (got buf : List ℕ) (n : ℕ) → n ≡ 0 → 0 < length buf → Consumes old mid got
    → Consumes mid new (take n buf) × (n ≡ 0 → 0 < length buf → IsAtEnd new) → IfSome old (λ left. got ≡ left)
read_whole old mid new got buf n none room first last =
    whole old mid new got first (subst (λ k. Consumes mid new (take k buf)) none last.0) (last.1 none room)
