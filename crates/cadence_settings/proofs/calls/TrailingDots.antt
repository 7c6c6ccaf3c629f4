-- A prefix without its trailing dots.
use Rattle.std.proofs.Common.{◌≡◌, ◌≢◌, ℕ, List, [], ◌∷◌, ◌++◌, refl, ap, arith}
use Rattle.std.proofs.lemmas.Grind.{common_steps}
use Rattle.cadence_settings.specs.Settings.{before_kept, without_dots}

-- A text with one more dot at its end has the same text without trailing dots.
pub without_dots-snoc : (xs : List ℕ) → without_dots (xs ++ (46 ∷ [])) ≡ without_dots xs
without_dots-snoc [] = refl
without_dots-snoc (c ∷ cs) = ap (before_kept c) (without_dots-snoc cs)

-- A text that doesn't end in a dot stays the same without trailing dots.
pub without_dots-same : (xs : List ℕ) → ((front : List ℕ) → xs ≢ front ++ (46 ∷ [])) → without_dots xs ≡ xs
without_dots-same [] h = refl
without_dots-same (c ∷ []) h =
    let other : c ≢ 46 = λ e. h [] (ap (λ (d : ℕ). d ∷ []) e) in grind (arith, common_steps)
without_dots-same (c ∷ d ∷ ds) h =
    ap (before_kept c) (without_dots-same (d ∷ ds) (λ front e. h (c ∷ front) (ap (λ (r : List ℕ). c ∷ r) e)))
