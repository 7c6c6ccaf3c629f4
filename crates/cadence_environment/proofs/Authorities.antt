-- The host and the port of a URL.
use Rattle.std.proofs.Common.{◌≡◌, ◌≢◌, ℕ, List, [], ◌∷◌, ◌++◌, ◌∙◌}
use Rattle.std.proofs.Common.{Bor, IfSome, Option, None, Some, ap, append-nil, append_assoc, inl, inr, refl, subst, sym}
use Rattle.std.specs.Prelude.{All}
use Rattle.cadence_environment.specs.Destinations.{EndsWithPort, IsAuthority, IsHost}

-- A host in brackets, and what comes after it.
pub bracketed : (text inner host rest : List ℕ) (port : ℕ) (parts : Option (Bor (List ℕ) × ℕ)) → text ≡ 91 ∷ inner
    → inner ≡ host ++ 93 ∷ rest → EndsWithPort rest port → IfSome parts (λ p. IsHost p.0.now)
    → IfSome parts (λ p. (p.0.now ≡ host) × (p.1 ≡ port)) → IfSome parts (λ p. IsAuthority text p.0.now p.1)
bracketed text inner host rest port None whole cut ends fit same = tt
bracketed text inner host rest port (Some parts) whole cut ends fit same =
    let found = parts.0.now in
    let joined : inner ≡ (found ++ 93 ∷ []) ++ rest =
    cut ∙ ap (λ h. h ++ 93 ∷ rest) (sym same.0) ∙ sym (append_assoc found (93 ∷ []) rest) in
    record {
      shown = 91 ∷ (found ++ 93 ∷ []);
      rest = rest;
      whole = whole ∙ ap (λ l. 91 ∷ l) joined;
      fit = fit;
      shows = inr refl;
      ends = subst (EndsWithPort rest) (sym same.1) ends;
    }

-- A host without colons, alone.
pub alone : (text : List ℕ) (parts : Option (Bor (List ℕ) × ℕ)) → All (λ byte. byte ≢ 58) text → IfSome parts (λ p. IsHost p.0.now)
    → IfSome parts (λ p. (p.0.now ≡ text) × (p.1 ≡ 8125)) → IfSome parts (λ p. IsAuthority text p.0.now p.1)
alone text None free fit same = tt
alone text (Some parts) free fit same =
    record {
      shown = text;
      rest = [];
      whole = sym (append-nil text);
      fit = fit;
      shows = inl (sym same.0, subst (All (λ byte. byte ≢ 58)) (sym same.0) free);
      ends = same.1;
    }
