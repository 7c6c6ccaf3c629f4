-- Texts without the spaces at their ends.
use Rattle.std.proofs.Common.{◌≡◌, ◌≢◌, ℕ, List, [], ◌∷◌, ◌++◌, ◌∙◌, ap, cond, refl, reverse, sym}
use Rattle.std.proofs.lemmas.Bool.{ne_eqb}
use Rattle.std.proofs.lemmas.List.{reverse-append, reverse-reverse}
use Rattle.cadence_environment.specs.TagTexts.{without_end, without_front}

-- A text that doesn't begin with a space stays.
pub without_front-same : (text : List ℕ) → ((rest : List ℕ) → text ≢ 32 ∷ rest) → without_front text ≡ text
without_front-same [] other = refl
without_front-same (c ∷ cs) other =
    ap (λ b. cond b (without_front cs) (c ∷ cs)) (ne_eqb c 32 (λ e. other cs (ap (λ x. x ∷ cs) e)))

pub without_end-snoc : (text : List ℕ) → without_end (text ++ 32 ∷ []) ≡ without_end text
without_end-snoc text = ap (λ t. reverse (without_front t)) (reverse-append text (32 ∷ []))

-- A text that doesn't end with a space stays.
pub without_end-same : (text : List ℕ) → ((front : List ℕ) → text ≢ front ++ 32 ∷ []) → without_end text ≡ text
without_end-same text other =
    ap reverse (without_front-same (reverse text) (λ rest e. other (reverse rest)
    (sym (reverse-reverse text) ∙ ap reverse e ∙ reverse-append (32 ∷ []) rest)))
    ∙ reverse-reverse text
