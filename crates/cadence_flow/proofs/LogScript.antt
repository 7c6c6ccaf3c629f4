-- The scripts of a packet log.
use Rattle.std.proofs.Common.{◌≡◌, ℕ, zero, suc, true, List, [], ◌∷◌, drop}
use Rattle.std.proofs.lemmas.Bool.{false≢true}
use Rattle.cadence_flow.specs.Log.{has_no_short, next_answer}
use Rattle.cadence_flow.specs.declared.io.packet_log.Answer.{Answer}
use Rattle.cadence_flow.specs.declared.io.packet_log.Answer.TheVariants.{Whole, Short, Refuse}

-- If a script has no short answer, its next answer isn't one.
pub no_short_next : (script : List Answer) (used k : ℕ) → has_no_short script ≡ true → next_answer (drop used script) ≡ Short k → ⊥
no_short_next [] zero k h e = absurd (cc)
no_short_next [] (suc n) k h e = absurd (cc)
no_short_next (Whole ∷ rest) zero k h e = absurd (cc)
no_short_next (Short j ∷ rest) used k h e = false≢true h
no_short_next (Refuse ∷ rest) zero k h e = absurd (cc)
no_short_next (Whole ∷ rest) (suc n) k h e = no_short_next rest n k h e
no_short_next (Refuse ∷ rest) (suc n) k h e = no_short_next rest n k h e
