use Rattle.std.proofs.Common.{◌≡◌, ℕ, ◌+◌, ◌-◌, ◌∷◌, ◌++◌, length, replicate, drop, ap, ◌∙◌, arith}
use Rattle.std.proofs.lemmas.List.{drop-replicate}
use borrow.Rule.Slice.PartMut.{Post-is}
use Rattle.cadence_agent.proofs.unix.address.address_of.Goals as goal

-- the zeros after the first bytes of a buffer of zeros
zeros_left : (n : ℕ) → drop {A = ℕ} (2 + n) (replicate {A = ℕ} 128 0) ≡ replicate {A = ℕ} (126 - n) 0
zeros_left n =
    let same : 128 - (2 + n) ≡ 126 - n = omega arith in
    drop-replicate {X = ℕ} (2 + n) 128 0 ∙ ap (λ m. replicate {A = ℕ} m 0) same

pub returns-clause-bytes : goal.returns-clause-bytes
returns-clause-bytes c =
    let n = length c.args.path.now in
    let rest = Post-is 2 (2 + n) (replicate {A = ℕ} 128 0) (omega arith) ∙ zeros_left n in
    λ i. 1 ∷ 0 ∷ (c.copy_from_slice.ensures.after i ++ rest i)
